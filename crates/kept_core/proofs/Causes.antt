-- The linker's cause, found part by part.
use Rattle.std.proofs.Common.{◌≡◌, ℕ, Bool, true, false, cond, ltb, leb, ◌+◌, length, List, [], ◌∷◌, Option, Some, None, refl, sym, ap, ◌∙◌, subst}
use Rattle.std.specs.Prelude.{pos, ◌+ℤ◌}
use Rattle.std.specs.Option.{option_or, option_map, option_and_then}
use Rattle.avr_reloc.specs.declared.patch.RangeFault.{RangeFault}
use Rattle.component_package.specs.declared.part.Site.{Site}
use Rattle.component_package.specs.packages.Component.{Component}
use Rattle.component_package.specs.link.Link.{Cause, FlashFull, RamFull, Symbols, Relocations, Duplicate, Undefined, Range, IsLate, link_cause, first_cause, range_cause, site_cause, sites_of, rooms_of, room_cause, symbols_cause, relocations_cause, duplicate_cause, sites_cause, target_of, place_of_site, above, first_two, strong_exporters, distinct, symbols_of, least_of}
use Rattle.component_package.specs.link.Layout.{code_total, init_total, bss_total}
use Rattle.std.specs.List.{filter}
use Rattle.avr_reloc.specs.Kind.{fault_of}

-- its parts, in their order
pub link_chain : (set : List Component) → link_cause set ≡ option_or (room_cause (rooms_of set)) (option_or (symbols_cause set) (option_or (relocations_cause set) (option_or (duplicate_cause set) (sites_cause set))))
unfolding link_cause
link_chain set = refl

-- a chain with its first parts known
pub room_first : (set : List Component) (c : Cause) → room_cause (rooms_of set) ≡ Some c → link_cause set ≡ Some c
room_first set c is = link_chain set ∙ ap (λ (o : Option Cause). option_or o (option_or (symbols_cause set) (option_or (relocations_cause set) (option_or (duplicate_cause set) (sites_cause set))))) is

module _ (set : List Component) (room : room_cause (rooms_of set) ≡ None) where
  past_room : link_cause set ≡ option_or (symbols_cause set) (option_or (relocations_cause set) (option_or (duplicate_cause set) (sites_cause set)))
  past_room = link_chain set ∙ ap (λ (o : Option Cause). option_or o (option_or (symbols_cause set) (option_or (relocations_cause set) (option_or (duplicate_cause set) (sites_cause set))))) room

  pub symbols_first : (c : Cause) → symbols_cause set ≡ Some c → link_cause set ≡ Some c
  symbols_first c is = past_room ∙ ap (λ (o : Option Cause). option_or o (option_or (relocations_cause set) (option_or (duplicate_cause set) (sites_cause set)))) is

  module _ (symbols : symbols_cause set ≡ None) where
    past_symbols : link_cause set ≡ option_or (relocations_cause set) (option_or (duplicate_cause set) (sites_cause set))
    past_symbols = past_room ∙ ap (λ (o : Option Cause). option_or o (option_or (relocations_cause set) (option_or (duplicate_cause set) (sites_cause set)))) symbols

    pub relocs_first : (c : Cause) → relocations_cause set ≡ Some c → link_cause set ≡ Some c
    relocs_first c is = past_symbols ∙ ap (λ (o : Option Cause). option_or o (option_or (duplicate_cause set) (sites_cause set))) is

    module _ (relocs : relocations_cause set ≡ None) where
      past_relocs : link_cause set ≡ option_or (duplicate_cause set) (sites_cause set)
      past_relocs = past_symbols ∙ ap (λ (o : Option Cause). option_or o (option_or (duplicate_cause set) (sites_cause set))) relocs

      pub duplicate_first : (c : Cause) → duplicate_cause set ≡ Some c → link_cause set ≡ Some c
      duplicate_first c is = past_relocs ∙ ap (λ (o : Option Cause). option_or o (sites_cause set)) is

      pub sites_last : duplicate_cause set ≡ None → link_cause set ≡ sites_cause set
      sites_last single = past_relocs ∙ ap (λ (o : Option Cause). option_or o (sites_cause set)) single

-- ---- late causes

late_or : (set : List Component) (x : Site) (o : Option ℕ) (rest : Option Cause) → IsLate rest → IsLate (option_or (range_cause set x o) rest)
late_or set x None rest late = tt
late_or set x (Some s) rest late = by (fault_of x.reloc.kind (pos s +ℤ x.reloc.addend) (pos (place_of_site set x)))
  where
    by : (f : Option RangeFault) → IsLate (option_or (option_map (λ k. Range x.component x.index k) f) rest)
    by None = late
    by (Some f) = tt

first_late : (set : List Component) (xs : List Site) → IsLate (first_cause (site_cause set) xs)
first_late set [] = tt
first_late set (x ∷ xs) = late_or set x (target_of set x) (first_cause (site_cause set) xs) (first_late set xs)

-- sites have late causes alone
pub sites_late : (set : List Component) → IsLate (sites_cause set)
sites_late set = first_late set (sites_of set)

-- where the cause is late, the parts before the sites have none, and it is the sites'
pub record IsLateOnly (set : List Component) : Type 0 where
  pub room : room_cause (rooms_of set) ≡ None
  pub symbols : symbols_cause set ≡ None
  pub relocs : relocations_cause set ≡ None
  pub single : duplicate_cause set ≡ None
  pub sites : link_cause set ≡ sites_cause set

none_early : (o : Option Cause) (rest : Option Cause) → ((c : Cause) → o ≡ Some c → IsLate (Some c) → ⊥) → IsLate (option_or o rest) → o ≡ None
none_early None rest early late = refl
none_early (Some c) rest early late = absurd (early c refl late)

above_early : (limit n : ℕ) (f : ℕ → Cause) → ((k : ℕ) → IsLate (Some (f k)) → ⊥) → (c : Cause) → above limit f n ≡ Some c → IsLate (Some c) → ⊥
above_early limit n f early c is late = by (ltb limit n) is
  where
    by : (b : Bool) → cond b (Some (f n)) None ≡ Some c → ⊥
    by true same = early n (subst IsLate (sym same) late)
    by false same = let q : ⊥ = cc in q

room_early : (a b : Option Cause) (c : Cause) → ((d : Cause) → a ≡ Some d → IsLate (Some d) → ⊥) → ((d : Cause) → b ≡ Some d → IsLate (Some d) → ⊥) → option_or a b ≡ Some c → IsLate (Some c) → ⊥
room_early None b c first second is late = second c is late
room_early (Some d) b c first second is late = first d refl (subst IsLate (sym is) late)

two_early : (s : ℕ) (xs : List ℕ) (c : Cause) → first_two s xs ≡ Some c → IsLate (Some c) → ⊥
two_early s [] c is late = let q : ⊥ = cc in q
two_early s (i ∷ []) c is late = let q : ⊥ = cc in q
two_early s (i ∷ j ∷ xs) c is late = subst IsLate (sym is) late

single_early : (set : List Component) (o : Option ℕ) (c : Cause) → option_and_then (λ s. first_two s (strong_exporters set s)) o ≡ Some c → IsLate (Some c) → ⊥
single_early set None c is late = let q : ⊥ = cc in q
single_early set (Some s) c is late = two_early s (strong_exporters set s) c is late

pub late_only : (set : List Component) → IsLate (link_cause set) → IsLateOnly set
late_only set late =
    let chain = subst IsLate (link_chain set) late in
    let rooms = rooms_of set in
    let flash = code_total rooms + init_total rooms in
    let ram = init_total rooms + bss_total rooms in
    let room = none_early (room_cause rooms) (option_or (symbols_cause set) (option_or (relocations_cause set) (option_or (duplicate_cause set) (sites_cause set))))
    (λ c is l. room_early (above 122880 FlashFull flash) (above 3584 RamFull ram) c (λ d q k. above_early 122880 flash FlashFull (λ n x. x) d q k) (λ d q k. above_early 3584 ram RamFull (λ n x. x) d q k) is l) chain in
    let after_room = subst IsLate (past_room set room) late in
    let symbols = none_early (symbols_cause set) (option_or (relocations_cause set) (option_or (duplicate_cause set) (sites_cause set))) (λ c is l. above_early 1024 (length (distinct (symbols_of set))) Symbols (λ n x. x) c is l) after_room in
    let after_symbols = subst IsLate (past_symbols set room symbols) late in
    let relocs = none_early (relocations_cause set) (option_or (duplicate_cause set) (sites_cause set)) (λ c is l. above_early 8192 (length (sites_of set)) Relocations (λ n x. x) c is l) after_symbols in
    let after_relocs = subst IsLate (past_relocs set room symbols relocs) late in
    let single = none_early (duplicate_cause set) (sites_cause set) (λ c is l. single_early set (least_of (filter (λ s. leb 2 (length (strong_exporters set s))) (symbols_of set))) c is l) after_relocs in
    record { room = room; symbols = symbols; relocs = relocs; single = single; sites = sites_last set room symbols relocs single }

-- a duplicate, or a cause of a relocation
abbrev pub IsLateOrDuplicate : Option Cause → Type 0
IsLateOrDuplicate None = Unit {0}
IsLateOrDuplicate (Some (FlashFull t)) = ⊥
IsLateOrDuplicate (Some (RamFull t)) = ⊥
IsLateOrDuplicate (Some (Symbols n)) = ⊥
IsLateOrDuplicate (Some (Relocations n)) = ⊥
IsLateOrDuplicate (Some (Duplicate s i j)) = Unit {0}
IsLateOrDuplicate (Some (Undefined k r s)) = Unit {0}
IsLateOrDuplicate (Some (Range k r c)) = Unit {0}

late_too : (o : Option Cause) → IsLate o → IsLateOrDuplicate o
late_too None late = tt
late_too (Some (FlashFull t)) late = late
late_too (Some (RamFull t)) late = late
late_too (Some (Symbols n)) late = late
late_too (Some (Relocations n)) late = late
late_too (Some (Duplicate s i j)) late = tt
late_too (Some (Undefined k r s)) late = tt
late_too (Some (Range k r c)) late = tt

two_late : (s : ℕ) (xs : List ℕ) (rest : Option Cause) → IsLateOrDuplicate rest → IsLateOrDuplicate (option_or (first_two s xs) rest)
two_late s [] rest late = late
two_late s (i ∷ []) rest late = late
two_late s (i ∷ j ∷ xs) rest late = tt

single_late : (set : List Component) (o : Option ℕ) (rest : Option Cause) → IsLateOrDuplicate rest → IsLateOrDuplicate (option_or (option_and_then (λ s. first_two s (strong_exporters set s)) o) rest)
single_late set None rest late = late
single_late set (Some s) rest late = two_late s (strong_exporters set s) rest late

-- past the limits there is no other cause
pub late_cause : (set : List Component) → room_cause (rooms_of set) ≡ None → symbols_cause set ≡ None → relocations_cause set ≡ None → IsLateOrDuplicate (link_cause set)
late_cause set room symbols relocs =
    subst IsLateOrDuplicate (sym (past_relocs set room symbols relocs))
    (single_late set (least_of (filter (λ s. leb 2 (length (strong_exporters set s))) (symbols_of set))) (sites_cause set) (late_too (sites_cause set) (sites_late set)))
