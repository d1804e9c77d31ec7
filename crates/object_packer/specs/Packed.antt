-- The component that an object means, where names have numbers.
use Rattle.std.specs.Prelude.{ℕ, ◌+◌, ◌-◌, Bool, true, false, not, ◌&&◌, nat_lt, nat_le, bit_and, List, [], ◌∷◌, length, map, slice_index, Option, Some, None, if◌then◌else◌}
use Rattle.std.specs.List.{filter, range_with_len}
use Rattle.avr_reloc.specs.Kind.{shape_of}
use Rattle.avr_reloc.specs.Field.{keep_of}
use Rattle.avr_elf.specs.Object.{SymbolParts, Object}
use Rattle.component_package.specs.declared.part.Place.{Place}
use Rattle.component_package.specs.declared.part.Place.TheVariants as places
use Rattle.component_package.specs.declared.part.Export.{Export}
use Rattle.component_package.specs.declared.part.Reloc.{Reloc}
use Rattle.component_package.specs.packages.Component.{Component}
use Rattle.object_packer.specs.declared.layout.Home.{Home}
use Rattle.object_packer.specs.declared.reference.Target.{Target}
use Rattle.object_packer.specs.declared.reference.Target.TheVariants.{Fixed, Named}
use Rattle.object_packer.specs.declared.kept.Kept.{Kept}
use Rattle.object_packer.specs.Sections.{symbol_at}
use Rattle.object_packer.specs.Parts.{part_length, part_bytes}
use Rattle.object_packer.specs.Order.{sorted_by}
use Rattle.object_packer.specs.References.{is_weak, symbol_home}
use Rattle.object_packer.specs.Relocations.{kept_width, ordered}
use Rattle.object_packer.specs.Names.{exported}

-- ---- bytes

abbrev pub kept_covers : ℕ → Kept → Bool
kept_covers at x = nat_le x.offset at && nat_lt at (x.offset + kept_width x)

-- the byte at a place, without the value bits of a field
abbrev pub clear_byte : Kept → List ℕ → ℕ → ℕ
clear_byte x bytes at = if kept_covers at x then bit_and (slice_index bytes at) (slice_index (keep_of (shape_of x.kind)) (at - x.offset)) else slice_index bytes at

-- the bytes, without the value bits of a field
abbrev pub clear_field : Kept → List ℕ → List ℕ
clear_field x bytes = map (clear_byte x bytes) (range_with_len 0 (length bytes))

-- and of all these fields
abbrev pub cleared : List Kept → List ℕ → List ℕ
cleared [] bytes = bytes
cleared (x ∷ xs) bytes = cleared xs (clear_field x bytes)

-- the field stands in data, or in code
abbrev pub stands_in : Bool → Kept → Bool
stands_in true x = x.in_init
stands_in false x = not x.in_init

abbrev pub part_of : Bool → Place
part_of in_init = if in_init then places.Init else places.Code

-- the bytes of code, with value bits that are zeros
abbrev pub packed_code : Object → List ℕ
packed_code o = cleared (filter (stands_in false) (ordered o)) (part_bytes o places.Code)

-- and those of data
abbrev pub packed_init : Object → List ℕ
packed_init o = cleared (filter (stands_in true) (ordered o)) (part_bytes o places.Init)

-- ---- exports and relocations, where f gives the numbers of names

abbrev pub export_at : ℕ → SymbolParts → Option Home → Export
export_at number s None = record { symbol = number; place = places.Absolute; weak = is_weak s; value = s.value }
export_at number s (Some home) = record { symbol = number; place = home.place; weak = is_weak s; value = home.start + s.value }

-- symbol i as an export
abbrev pub export_of : Object → (List ℕ → ℕ) → ℕ → Export
export_of o f i = let s = symbol_at o i in export_at (f s.name) s (symbol_home o s)

abbrev pub packed_exports : Object → (List ℕ → ℕ) → List Export
packed_exports o f = sorted_by (λ e. e.symbol) (map (export_of o f) (exported o))

abbrev pub target_number : Target → ℕ → ℕ
target_number (Fixed target) number = target
target_number Named number = number

abbrev pub reloc_with : Kept → ℕ → Reloc
reloc_with x number =
    record {
      offset = x.offset;
      in_init = x.in_init;
      weak = x.weak;
      kind = x.kind;
      target = target_number x.target number;
      addend = x.addend;
    }

-- a relocation with the number of its symbol's name
abbrev pub reloc_of : Object → (List ℕ → ℕ) → Kept → Reloc
reloc_of o f x = reloc_with x (f (symbol_at o x.symbol).name)

-- ---- the component

abbrev pub packed : Object → ℕ → ℕ → (List ℕ → ℕ) → Component
packed o component version f =
    record {
      component = component;
      version = version;
      code = packed_code o;
      init = packed_init o;
      bss = part_length o places.Bss;
      exports = packed_exports o f;
      relocs = map (reloc_of o f) (ordered o);
    }
