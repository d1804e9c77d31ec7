-- What the image of a set of components is, and what keeps it from having one.
use Rattle.std.specs.Prelude.{◌≡◌, ℕ, pos, ◌+ℤ◌, ◌+◌, min, Bool, not, ◌&&◌, ◌==◌, nat_lt, nat_le, List, [], ◌∷◌, ◌++◌, length, map, Option, Some, None, unwrap_or, if◌then◌else◌}
use Rattle.std.specs.List.{filter, find, flat_map, enumerate_from, list_any, fold}
use Rattle.std.specs.Option.{option_or, option_map, option_and_then}
use Rattle.avr_reloc.specs.declared.patch.RangeFault.{RangeFault}
use Rattle.avr_reloc.specs.Kind.{fault_of}
use Rattle.avr_reloc.specs.declared.fixup.Fixup.{Fixup}
use Rattle.avr_reloc.specs.Field.{AreBytes}
use Rattle.avr_reloc.specs.Fixups.{ArePut}
use Rattle.component_package.specs.declared.part.Site.{Site}
use Rattle.component_package.specs.declared.part.Place.{Place}
use Rattle.component_package.specs.declared.part.Place.TheVariants as places
use Rattle.component_package.specs.declared.part.Export.{Export}
use Rattle.component_package.specs.declared.limits.TheConstants.{IMAGE_BYTES, RAM_BYTES, SET_SYMBOLS, SET_RELOCATIONS}
use Rattle.component_package.specs.packages.Component.{Component}
use Rattle.component_package.specs.link.Layout.{Room, room_of, code_total, init_total, bss_total, code_base, load_base, ram_base, bss_base, linker_symbol}

abbrev pub rooms_of : List Component → List Room
rooms_of set = map room_of set

-- ---- addresses

-- each export with the place of its component in the set, in order
abbrev pub exports_of : List Component → List (ℕ × Export)
exports_of set = flat_map (λ c. map (λ e. (c.0, e)) c.1.exports) (enumerate_from 0 set)

abbrev pub is_strong_export_of : ℕ → (ℕ × Export) → Bool
is_strong_export_of s x = x.1.symbol == s && not x.1.weak

-- the first export of a symbol that is not weak, else the first
abbrev pub definition_of : List Component → ℕ → Option (ℕ × Export)
definition_of set s = option_or (find (is_strong_export_of s) (exports_of set)) (find (λ x. x.1.symbol == s) (exports_of set))

abbrev pub base_of_place : List Component → ℕ → Place → ℕ
base_of_place set k places.Code = code_base (rooms_of set) k
base_of_place set k places.Init = ram_base (rooms_of set) k
base_of_place set k places.Bss = bss_base (rooms_of set) k
base_of_place set k places.Absolute = 0

abbrev pub address_of : List Component → ℕ → Option ℕ
address_of set s = option_map (λ x. base_of_place set x.0 x.1.place + x.1.value) (definition_of set s)

-- the targets below 16: the component's own bases, and the linker's symbols
abbrev pub fixed_target : List Component → ℕ → ℕ → Option ℕ
fixed_target set k t =
    let rooms = rooms_of set in
    if t == 0 then Some (code_base rooms k)
    else if t == 1 then Some (ram_base rooms k)
    else if t == 2 then Some (bss_base rooms k)
    else linker_symbol rooms t

abbrev pub sites_in : ℕ → Component → List Site
sites_in k c = map (λ r. record { component = k; index = r.0; reloc = r.1 }) (enumerate_from 0 c.relocs)

-- the relocations of the set, by component and then by index
abbrev pub sites_of : List Component → List Site
sites_of set = flat_map (λ c. sites_in c.0 c.1) (enumerate_from 0 set)

-- the value of a relocation's target, where f gives the addresses of symbols; a weak reference to none is 0
abbrev pub target_with : (ℕ → Option ℕ) → List Component → Site → Option ℕ
target_with f set x =
    option_or (fixed_target set x.component x.reloc.target)
    (option_or (f x.reloc.target) (if x.reloc.weak then Some 0 else None))

abbrev pub target_of : List Component → Site → Option ℕ
target_of set x = target_with (address_of set) set x

-- where the field lies in the image
abbrev pub place_of_site : List Component → Site → ℕ
place_of_site set x = (if x.reloc.in_init then load_base (rooms_of set) x.component else code_base (rooms_of set) x.component) + x.reloc.offset

-- ---- causes

pub data Cause : Type 0 where
  FlashFull : ℕ → Cause
  RamFull : ℕ → Cause
  Symbols : ℕ → Cause
  Relocations : ℕ → Cause
  Duplicate : ℕ → ℕ → ℕ → Cause
  Undefined : ℕ → ℕ → ℕ → Cause
  Range : ℕ → ℕ → RangeFault → Cause

-- a cause that the merged symbols can be made in spite of
abbrev pub IsLate : Option Cause → Type 0
IsLate None = Unit {0}
IsLate (Some (Undefined k r s)) = Unit {0}
IsLate (Some (Range k r c)) = Unit {0}
IsLate (Some (FlashFull t)) = ⊥
IsLate (Some (RamFull t)) = ⊥
IsLate (Some (Symbols n)) = ⊥
IsLate (Some (Relocations n)) = ⊥
IsLate (Some (Duplicate s i j)) = ⊥

-- a cause above a limit
abbrev pub above : ℕ → (ℕ → Cause) → ℕ → Option Cause
above limit cause n = if nat_lt limit n then Some (cause n) else None

abbrev pub distinct : List ℕ → List ℕ
distinct [] = []
distinct (s ∷ ss) = if list_any (λ t. t == s) ss then distinct ss else s ∷ distinct ss

abbrev pub first_cause : {X : Type 0} → (X → Option Cause) → List X → Option Cause
first_cause f [] = None
first_cause f (x ∷ xs) = option_or (f x) (first_cause f xs)

abbrev pub range_cause : List Component → Site → Option ℕ → Option Cause
range_cause set x None = Some (Undefined x.component x.index x.reloc.target)
range_cause set x (Some s) = option_map (λ f. Range x.component x.index f) (fault_of x.reloc.kind (pos s +ℤ x.reloc.addend) (pos (place_of_site set x)))

abbrev pub site_cause : List Component → Site → Option Cause
site_cause set x = range_cause set x (target_of set x)

abbrev pub least_of : List ℕ → Option ℕ
least_of [] = None
least_of (s ∷ ss) = Some (fold min s ss)

abbrev pub strong_exporters : List Component → ℕ → List ℕ
strong_exporters set s = map (λ x. x.0) (filter (is_strong_export_of s) (exports_of set))

abbrev pub symbols_of : List Component → List ℕ
symbols_of set = map (λ x. x.1.symbol) (exports_of set)

abbrev pub first_two : ℕ → List ℕ → Option Cause
first_two s [] = None
first_two s (i ∷ []) = None
first_two s (i ∷ j ∷ others) = Some (Duplicate s i j)

-- the least symbol with two exporters that are not weak
abbrev pub duplicate_cause : List Component → Option Cause
duplicate_cause set = option_and_then (λ s. first_two s (strong_exporters set s)) (least_of (filter (λ s. nat_le 2 (length (strong_exporters set s))) (symbols_of set)))

abbrev pub room_cause : List Room → Option Cause
room_cause rooms = option_or (above IMAGE_BYTES FlashFull (code_total rooms + init_total rooms)) (above RAM_BYTES RamFull (init_total rooms + bss_total rooms))

abbrev pub symbols_cause : List Component → Option Cause
symbols_cause set = above SET_SYMBOLS Symbols (length (distinct (symbols_of set)))

abbrev pub relocations_cause : List Component → Option Cause
relocations_cause set = above SET_RELOCATIONS Relocations (length (sites_of set))

abbrev pub sites_cause : List Component → Option Cause
sites_cause set = first_cause (site_cause set) (sites_of set)

-- the first cause
unfoldable pub link_cause : List Component → Option Cause
link_cause set = option_or (room_cause (rooms_of set)) (option_or (symbols_cause set) (option_or (relocations_cause set) (option_or (duplicate_cause set) (sites_cause set))))

-- ---- the image

-- all code in order, then all data in order, not patched
abbrev pub plain_of : List Component → List ℕ
plain_of set = flat_map (λ c. c.code) set ++ flat_map (λ c. c.init) set

-- a field with the value that it is to hold, where f gives the addresses of symbols; where a target has none, this says nothing
abbrev pub fixup_with : (ℕ → Option ℕ) → List Component → Site → Fixup
fixup_with f set x = record { place = place_of_site set x; kind = x.reloc.kind; s_plus_a = pos (unwrap_or (target_with f set x) 0) +ℤ x.reloc.addend }

abbrev pub fixup_of : List Component → Site → Fixup
fixup_of set x = fixup_with (address_of set) set x

abbrev pub fixups_of : List Component → List Fixup
fixups_of set = map (fixup_of set) (sites_of set)

-- b is the image of the set: nothing refuses the set, each byte in no field is the component's, and each field holds its value
pub record IsImage (set : List Component) (b : List ℕ) : Type 0 where
  pub possible : link_cause set ≡ None
  pub bytes : AreBytes b
  pub put : ArePut (fixups_of set) (plain_of set) b
