-- The packages and the power cuts of a rehearsal, drawn from its number.
use Rattle.std.specs.Prelude.{ℕ, zero, suc, pos, ◌+◌, ◌-◌, ◌*◌, ◌/◌, ◌%◌, ◌^◌, ◌==◌, ◌&&◌, nat_lt, true, false, if◌then◌else◌}
use Rattle.std.specs.Prelude.{List, [], ◌∷◌, ◌++◌, length, take, drop, slice_index_or, slice_set, Option, Some, None}
use Rattle.std.specs.List.{flat_map, position}
use Rattle.avr_reloc.specs.declared.kind.RelocType.TheVariants as kinds
use Rattle.component_package.specs.declared.part.Place.TheVariants as places
use Rattle.component_package.specs.declared.part.Export.{Export}
use Rattle.component_package.specs.declared.part.Reloc.{Reloc}
use Rattle.component_package.specs.packages.Numbers.{u16_bytes}
use Rattle.component_package.specs.packages.Component.{Component, spelling}
use Rattle.update_laws.specs.Update.{Delivered}
use Rattle.drawn_releases.specs.declared.code.Instruction.{Instruction}
use Rattle.drawn_releases.specs.declared.code.Instruction.TheVariants.{Word, Call}

-- ---- draws

-- the state behind a draw: a linear congruential generator
abbrev pub next : ℕ → ℕ
next x = (x * 6364136223846793005 + 1442695040888963407) % 2 ^ 64

-- what is drawn in state x, below n
abbrev pub drawn : ℕ → ℕ → ℕ
drawn n x = (next x / 2 ^ 33) % n

-- the state behind so many draws
abbrev pub after : ℕ → ℕ → ℕ
after zero x = x
after (suc n) x = after n (next x)

-- so many bytes
abbrev pub drawn_bytes : ℕ → ℕ → List ℕ
drawn_bytes zero x = []
drawn_bytes (suc n) x = drawn 256 x ∷ drawn_bytes n (next x)

-- ---- a package

-- the instruction at this word, of so many words that are left: a call of a drawn component's symbol at each eighth word, else any word
abbrev pub instruction_at : ℕ → ℕ → ℕ → Instruction
instruction_at at left x = if nat_lt 1 left && at % 8 == 0 then Call (16 + drawn 12 x) else Word (drawn 65536 x)

-- the instructions of so many words, from this word on; a call takes two
abbrev pub instructions : ℕ → ℕ → ℕ → List Instruction
instructions zero at x = []
instructions (suc zero) at x = instruction_at at 1 x ∷ []
instructions (suc (suc n)) at x =
    instruction_at at (suc (suc n)) x ∷ (if at % 8 == 0 then instructions n (at + 2) (next x) else instructions (suc n) (at + 1) (next x))

-- a call is spelled without its target
abbrev pub instruction_bytes : Instruction → List ℕ
instruction_bytes (Word w) = u16_bytes w
instruction_bytes (Call symbol) = 0x0E ∷ 0x94 ∷ 0 ∷ 0 ∷ []

-- the relocation of a call at this offset
abbrev pub call_reloc : ℕ → ℕ → Reloc
call_reloc offset symbol = record { offset = offset; in_init = false; weak = false; kind = kinds.Call; target = symbol; addend = pos 0 }

-- the relocations of instructions, the first of which stands at this offset
abbrev pub calls_from : ℕ → List Instruction → List Reloc
calls_from offset [] = []
calls_from offset (Word w ∷ is) = calls_from (offset + 2) is
calls_from offset (Call symbol ∷ is) = call_reloc offset symbol ∷ calls_from (offset + 4) is

-- data of so many bytes: a pointer to itself, and drawn bytes
abbrev pub data_bytes : ℕ → ℕ → List ℕ
data_bytes size x = if size == 0 then [] else 0 ∷ 0 ∷ drawn_bytes (size - 2) x

abbrev pub pointer_reloc : Reloc
pointer_reloc = record { offset = 0; in_init = true; weak = false; kind = kinds.Abs16; target = 1; addend = pos 0 }

abbrev pub data_relocs : ℕ → List Reloc
data_relocs size = if size == 0 then [] else pointer_reloc ∷ []

-- component c is symbol 15 + c, at the begin of its code
abbrev pub own_export : ℕ → Export
own_export c = record { symbol = 15 + c; place = places.Code; weak = false; value = 0 }

-- what is drawn of a component from state x on, in this order: the code's length in words, the code, the data's length, the data, the bss
abbrev pub drawn_code : ℕ → List Instruction
drawn_code x = instructions (32 + drawn 600 x) 0 (next x)

abbrev pub behind_code : ℕ → ℕ
behind_code x = after (length (drawn_code x)) (next x)

abbrev pub data_size : ℕ → ℕ
data_size x = 2 * drawn 20 (behind_code x)

abbrev pub behind_data : ℕ → ℕ
behind_data x = after (data_size x - 2) (next (behind_code x))

abbrev pub behind_component : ℕ → ℕ
behind_component x = next (behind_data x)

-- component c in version v, drawn from state x on
abbrev pub made : ℕ → ℕ → ℕ → Component
made c v x = record {
  component = c;
  version = v;
  code = flat_map instruction_bytes (drawn_code x);
  init = data_bytes (data_size x) (next (behind_code x));
  bss = 2 * drawn 20 (behind_data x);
  exports = own_export c ∷ [];
  relocs = calls_from 0 (drawn_code x) ++ data_relocs (data_size x);
}

abbrev pub package_of : Component → Delivered
package_of c = record { component = c.component; version = c.version; bytes = spelling c }

-- ---- releases

-- a release's packages in their order, the program in which power is cut while it is installed, what the page of it then holds, and the state behind all that
pub record Drawn : Type 0 where
  pub packages : List Delivered
  pub stop : ℕ
  pub fill : ℕ
  pub state : ℕ

-- before the first release
abbrev pub begun : ℕ → Drawn
begun number = record { packages = []; stop = 0; fill = 0; state = number }

-- component c more, in version 1
abbrev pub with_one : ℕ → Drawn → Drawn
with_one c d = record d { packages = d.packages ++ package_of (made c 1 d.state) ∷ []; state = behind_component d.state }

-- so many components more, from number c on
abbrev pub with_more : ℕ → ℕ → Drawn → Drawn
with_more zero c d = d
with_more (suc n) c d = with_more n (c + 1) (with_one c d)

-- no package
abbrev pub no_package : Delivered
no_package = record { component = 0; version = 0; bytes = [] }

-- a version number has two bytes
abbrev pub next_version : ℕ → ℕ
next_version v = (v + 1) % 2 ^ 16

-- component c is made anew at its place, one version later
abbrev pub remade_at : ℕ → Drawn → Option ℕ → Drawn
remade_at c d None = d
remade_at c d (Some i) = record d {
  packages = slice_set d.packages i (package_of (made c (next_version (slice_index_or d.packages i no_package).version) d.state));
  state = behind_component d.state;
}

abbrev pub remade : ℕ → Drawn → Drawn
remade c d = remade_at c d (position (λ o. o.component == c) d.packages)

-- a drawn component is made anew
abbrev pub remade_one : Drawn → Drawn
remade_one d = remade (1 + drawn 12 d.state) (record d { state = next d.state })

-- so many times
abbrev pub changed : ℕ → Drawn → Drawn
changed zero d = d
changed (suc n) d = changed n (remade_one d)

-- the order is turned to the left by a drawn number of places
abbrev pub turned : Drawn → Drawn
turned d = let n = drawn 12 d.state in record d { packages = drop n d.packages ++ take n d.packages; state = next d.state }

-- one to three components of the former release are made anew
abbrev pub later : Drawn → Drawn
later d = turned (changed (1 + drawn 3 d.state) (record d { state = next d.state }))

-- and the cut is drawn
abbrev pub with_cut : Drawn → Drawn
with_cut d = record d { stop = 1 + drawn 400 d.state; fill = drawn 256 (next d.state); state = after 2 d.state }

-- twelve components are the first release
abbrev pub next_packages : Drawn → Drawn
next_packages d = if length d.packages == 0 then with_more 12 1 d else later d

abbrev pub next_release : Drawn → Drawn
next_release d = with_cut (next_packages d)

-- release r; release 0 has no package
abbrev pub release_drawn : ℕ → ℕ → Drawn
release_drawn number zero = begun number
release_drawn number (suc r) = next_release (release_drawn number r)
