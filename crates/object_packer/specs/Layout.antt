-- What the packer knows of an object once it has looked at each section and symbol.
use Rattle.std.specs.Prelude.{◌≡◌, ℕ, ◌+◌, ◌<◌, ◌^◌, List, length, Option, Some, None}
use Rattle.avr_elf.specs.First.{list_of}
use Rattle.avr_elf.specs.Object.{SymbolParts, Object}
use Rattle.avr_elf.specs.WellFormed.{IsWellFormed}
use Rattle.component_package.specs.declared.part.Place.{Place}
use Rattle.component_package.specs.declared.part.Place.TheVariants as places
use Rattle.object_packer.specs.declared.layout.Home.{Home}
use Rattle.object_packer.specs.declared.layout.Lengths.{Lengths}
use Rattle.object_packer.specs.declared.reference.Reference.{Reference}
use Rattle.object_packer.specs.Parts.{even_up, part_length, length_before, home_of}
use Rattle.object_packer.specs.declared.kept.Kept.{Kept}
use Rattle.object_packer.specs.References.{symbol_home, reference_of}
use Rattle.object_packer.specs.Sections.{symbol_at}
use Rattle.object_packer.specs.Relocations.{ordered}
use Rattle.object_packer.specs.Names.{exported as all_exported, names as all_names}

-- how much of each part the sections before section k take
abbrev pub lengths_before : Object → ℕ → Lengths
lengths_before o k = record { code = length_before o places.Code k; init = length_before o places.Init k; bss = length_before o places.Bss k }

-- how long the parts are
abbrev pub lengths_of : Object → Lengths
lengths_of o = record { code = part_length o places.Code; init = part_length o places.Init; bss = part_length o places.Bss }

abbrev pub length_in : Lengths → Place → ℕ
length_in t places.Code = t.code
length_in t places.Init = t.init
length_in t places.Bss = t.bss
length_in t places.Absolute = 0

-- the lengths with a section more, of a part and a size
abbrev pub grown : Lengths → Option Place → ℕ → Lengths
grown t (Some places.Code) size = record t { code = t.code + even_up size }
grown t (Some places.Init) size = record t { init = t.init + even_up size }
grown t (Some places.Bss) size = record t { bss = t.bss + even_up size }
grown t place size = t

-- each length is below a bound
pub record AreBelow (bound : ℕ) (t : Lengths) : Type 0 where
  pub code : t.code < bound
  pub init : t.init < bound
  pub bss : t.bss < bound

-- where the sections of an object begin, and how long the parts are
pub record IsLayout (o : Object) (hs : List (Option Home)) (t : Lengths) : Type 0 where
  pub well_formed : IsWellFormed o
  pub homes : hs ≡ list_of (home_of o) (length o.sections)
  pub lengths : t ≡ lengths_of o
  pub small : (k : ℕ) (home : Home) → k < length o.sections → home_of o k ≡ Some home → home.start < 2 ^ 50
  pub short : AreBelow (2 ^ 50) t

-- what relocations that name a symbol refer to, by symbol
pub record AreReferences (o : Object) (rs : List Reference) : Type 0 where
  pub are : rs ≡ list_of (reference_of o) (length o.symbols)
  pub small : (i : ℕ) → i < length o.symbols → (reference_of o i).value < 2 ^ 51

-- the exported symbols of an object, its relocations in their order, and the names that need numbers
pub record IsPlan (o : Object) (es : List ℕ) (rs : List Kept) (ns : List (List ℕ)) : Type 0 where
  pub exported : es ≡ all_exported o
  pub relocs : rs ≡ ordered o
  pub names : ns ≡ all_names o

abbrev pub export_value : SymbolParts → Option Home → ℕ
export_value s None = s.value
export_value s (Some home) = home.start + s.value

-- the symbol is there, and its value has room in two bytes
pub record IsExportable (o : Object) (i : ℕ) : Type 0 where
  pub inside : i < length o.symbols
  pub value : export_value (symbol_at o i) (symbol_home o (symbol_at o i)) < 2 ^ 16

-- the symbol is there, and the place has room in two bytes
pub record IsPackable (o : Object) (x : Kept) : Type 0 where
  pub symbol : x.symbol < length o.symbols
  pub offset : x.offset < 2 ^ 16
