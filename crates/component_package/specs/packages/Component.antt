-- A component, and the one spelling of it as a package.
use Rattle.std.specs.Prelude.{ℕ, ◌+◌, List, [], ◌∷◌, ◌++◌, length, replicate, Bool, if◌then◌else◌}
use Rattle.std.specs.List.{flat_map}
use Rattle.std.specs.Int.{w16, cast_unsigned}
use Rattle.avr_reloc.specs.Kind.{number_of}
use Rattle.component_package.specs.declared.part.Place.{Place}
use Rattle.component_package.specs.declared.part.Place.TheVariants as places
use Rattle.component_package.specs.declared.part.Export.{Export}
use Rattle.component_package.specs.declared.part.Reloc.{Reloc}
use Rattle.component_package.specs.packages.Numbers.{u16_bytes}

-- a component: its numbers, its code, the data that is copied to RAM at start, how much zeroed RAM it wants, what it exports and where it is relocated
pub record Component : Type 0 where
  pub component : ℕ
  pub version : ℕ
  pub code : List ℕ
  pub init : List ℕ
  pub bss : ℕ
  pub exports : List Export
  pub relocs : List Reloc

-- the number of a kind of place, as an export spells it
abbrev pub number_of_place : Place → ℕ
number_of_place places.Code = 0
number_of_place places.Init = 1
number_of_place places.Bss = 2
number_of_place places.Absolute = 3

-- 0x80 marks what is weak
abbrev pub weak_mark : Bool → ℕ
weak_mark weak = if weak then 128 else 0

-- six bytes: symbol, kind of place and weakness, zero, value
abbrev pub export_bytes : Export → List ℕ
export_bytes e = u16_bytes e.symbol ++ (number_of_place e.place + weak_mark e.weak) ∷ 0 ∷ u16_bytes e.value

-- eight bytes: offset, part and weakness, type, target, addend
abbrev pub reloc_bytes : Reloc → List ℕ
reloc_bytes r = u16_bytes r.offset ++ ((if r.in_init then 1 else 0) + weak_mark r.weak) ∷ number_of r.kind ∷ [] ++ u16_bytes r.target ++ u16_bytes (cast_unsigned w16 r.addend)

-- FCP1
abbrev pub magic : List ℕ
magic = 0x46 ∷ 0x43 ∷ 0x50 ∷ 0x31 ∷ []

-- 32 bytes: the magic, seven numbers and zeros
abbrev pub header_bytes : Component → List ℕ
header_bytes c = magic ++ u16_bytes c.component ++ u16_bytes c.version ++ u16_bytes (length c.code) ++ u16_bytes (length c.init) ++ u16_bytes c.bss
    ++ u16_bytes (length c.exports) ++ u16_bytes (length c.relocs) ++ replicate 14 0

-- the one spelling: header, code, data, exports and relocations, and nothing more
abbrev pub spelling : Component → List ℕ
spelling c = header_bytes c ++ (c.code ++ (c.init ++ (flat_map export_bytes c.exports ++ flat_map reloc_bytes c.relocs)))
