-- Rows and laws of sets: where parts and symbols stand, and which cause comes first.
use Rattle.std.specs.Prelude.{◌≡◌, ℕ, Bool, pos, List, [], ◌∷◌, map, replicate, false, true, Option, Some, None}
use Rattle.std.specs.List.{range_with_len}
use Rattle.avr_reloc.specs.declared.kind.RelocType.TheVariants as kinds
use Rattle.avr_reloc.specs.declared.patch.RangeFault.{RangeFault}
use Rattle.component_package.specs.declared.part.Place.{Place}
use Rattle.component_package.specs.declared.part.Place.TheVariants as places
use Rattle.component_package.specs.declared.part.Export.{Export}
use Rattle.component_package.specs.declared.part.Reloc.{Reloc}
use Rattle.component_package.specs.packages.Component.{Component}
use Rattle.component_package.specs.link.Link.{Cause, FlashFull, RamFull, Symbols, Relocations, Duplicate, Undefined, Range, IsLate, link_cause, room_cause, symbols_cause, relocations_cause, duplicate_cause, sites_cause, rooms_of, address_of, fixed_target, place_of_site, sites_of, plain_of}

-- ---- two components, each with code, data and bss

abbrev pub word : Bool → ℕ → Reloc
word in_init offset = record { offset = offset; in_init = in_init; weak = false; kind = kinds.Abs16; target = 0; addend = pos 0 }

abbrev pub export_at : ℕ → Place → ℕ → Export
export_at symbol place value = record { symbol = symbol; place = place; weak = false; value = value }

-- 2 bytes of code, 4 of data and 6 of bss
abbrev pub first : Component
first = record {
  component = 1;
  version = 1;
  code = 1 ∷ 2 ∷ [];
  init = 3 ∷ 4 ∷ 5 ∷ 6 ∷ [];
  bss = 6;
  exports = export_at 16 places.Code 1 ∷ export_at 17 places.Init 1 ∷ export_at 18 places.Bss 1 ∷ export_at 19 places.Absolute 1 ∷ [];
  relocs = word false 0 ∷ word true 2 ∷ [];
}

-- 4 bytes of code, 2 of data and 8 of bss
abbrev pub second : Component
second = record {
  component = 2;
  version = 1;
  code = 7 ∷ 8 ∷ 9 ∷ 10 ∷ [];
  init = 11 ∷ 12 ∷ [];
  bss = 8;
  exports = export_at 20 places.Code 1 ∷ export_at 21 places.Init 1 ∷ export_at 22 places.Bss 1 ∷ export_at 23 places.Absolute 1 ∷ [];
  relocs = word false 2 ∷ word true 0 ∷ [];
}

abbrev pub both : List Component
both = first ∷ second ∷ []

-- these addresses
abbrev pub these : List ℕ → List (Option ℕ)
these xs = map (λ x. Some x) xs

pub record LayoutRows : Type 0 where
  -- the own bases of the first: its code, its data in RAM and its bss; then the linker's symbols: where data begins and ends in RAM, where it is
  -- loaded from, where bss begins and ends, where the heap begins, the stack, and 0
  pub targets_of_first : map (fixed_target both 0) (range_with_len 0 11)
      ≡ these (0 ∷ 0x800100 ∷ 0x800106 ∷ 0x800100 ∷ 0x800106 ∷ 6 ∷ 0x800106 ∷ 0x800114 ∷ 0x800114 ∷ 0x8010FF ∷ 0 ∷ [])
  pub targets_of_second : map (fixed_target both 1) (range_with_len 0 11)
      ≡ these (2 ∷ 0x800104 ∷ 0x80010C ∷ 0x800100 ∷ 0x800106 ∷ 6 ∷ 0x800106 ∷ 0x800114 ∷ 0x800114 ∷ 0x8010FF ∷ 0 ∷ [])
  -- no other target below 16 is one
  pub others : map (fixed_target both 0) (range_with_len 11 5) ≡ replicate 5 None
  pub symbols : map (address_of both) (range_with_len 16 8) ≡ these (1 ∷ 0x800101 ∷ 0x800107 ∷ 1 ∷ 3 ∷ 0x800105 ∷ 0x80010D ∷ 1 ∷ [])
  -- the image is all code and then all data, and this is where the fields lie in it
  pub bytes : plain_of both ≡ 1 ∷ 2 ∷ 7 ∷ 8 ∷ 9 ∷ 10 ∷ 3 ∷ 4 ∷ 5 ∷ 6 ∷ 11 ∷ 12 ∷ []
  pub fields : map (place_of_site both) (sites_of both) ≡ 0 ∷ 8 ∷ 4 ∷ 10 ∷ []

-- ---- causes

-- each cause comes before those behind it: flash and then RAM, symbols, relocations, duplicates, and what is wrong at a relocation
pub record CausesInOrder : Type 0 where
  pub room : (set : List Component) (c : Cause) → room_cause (rooms_of set) ≡ Some c → link_cause set ≡ Some c
  pub symbols : (set : List Component) (c : Cause) → room_cause (rooms_of set) ≡ None → symbols_cause set ≡ Some c → link_cause set ≡ Some c
  pub relocations : (set : List Component) (c : Cause) → room_cause (rooms_of set) ≡ None → symbols_cause set ≡ None → relocations_cause set ≡ Some c → link_cause set ≡ Some c
  pub duplicate : (set : List Component) (c : Cause) → room_cause (rooms_of set) ≡ None → symbols_cause set ≡ None → relocations_cause set ≡ None
      → duplicate_cause set ≡ Some c → link_cause set ≡ Some c
  pub sites : (set : List Component) (c : Option Cause) → room_cause (rooms_of set) ≡ None → symbols_cause set ≡ None → relocations_cause set ≡ None
      → duplicate_cause set ≡ None → sites_cause set ≡ c → link_cause set ≡ c

-- a component that exports symbol 20, with so many relocations
abbrev pub exporter : ℕ → ℕ → Component
exporter number relocs = record {
  component = number;
  version = 1;
  code = 0 ∷ 0 ∷ [];
  init = [];
  bss = 0;
  exports = export_at 20 places.Code 0 ∷ [];
  relocs = replicate relocs (word false 0);
}

-- one with too much data and bss, and too much code
abbrev pub giant : Component
giant = record { component = 1; version = 1; code = replicate 122882 0; init = []; bss = 3586; exports = []; relocs = [] }

pub record CauseRows : Type 0 where
  -- too much for flash and for RAM
  pub flash : link_cause (giant ∷ []) ≡ Some (FlashFull 122882)
  -- too many relocations, and two strong exports of a symbol
  pub relocations : link_cause (exporter 1 4097 ∷ exporter 2 4096 ∷ []) ≡ Some (Relocations 8193)

-- which causes the merged symbols can be made in spite of
pub record LateCauses : Type 0 where
  pub none : IsLate None
  pub undefined : (k r s : ℕ) → IsLate (Some (Undefined k r s))
  pub range : (k r : ℕ) (c : RangeFault) → IsLate (Some (Range k r c))
  pub flash : (t : ℕ) → IsLate (Some (FlashFull t)) → ⊥
  pub ram : (t : ℕ) → IsLate (Some (RamFull t)) → ⊥
  pub symbols : (n : ℕ) → IsLate (Some (Symbols n)) → ⊥
  pub relocations : (n : ℕ) → IsLate (Some (Relocations n)) → ⊥
  pub duplicate : (s i j : ℕ) → IsLate (Some (Duplicate s i j)) → ⊥
