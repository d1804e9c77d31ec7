-- The types of object_packer's own that its definitions give, which no other crate can name.
use Rattle.std.specs.Prelude.{List, [], Option}
use Rattle.avr_elf.specs.Object.{Object}
use Rattle.object_packer.specs.Parts.{home_of}
use Rattle.object_packer.specs.Relocations.{kept}

abbrev item_of : {X : Type 0} → List X → Type 0
item_of {X} xs = X

abbrev value_of : {X : Type 0} → Option X → Type 0
value_of {X} o = X

abbrev empty : Object
empty = record { sections = []; symbols = []; relas = [] }

-- a relocation that is kept
abbrev pub Kept : Type 0
Kept = item_of (kept empty)

-- where a section begins
abbrev pub Home : Type 0
Home = value_of (home_of empty 0)
