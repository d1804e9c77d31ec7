-- Sets of components in slots: what has no fault is a set, and the other way round.
use Rattle.std.proofs.Common.{◌≡◌, ⊎_elim, ℕ, suc, ◌<◌, ◌&&◌, Bool, true, false, cond, eqb, List, [], ◌∷◌, length, take, map, get_or, Option, Some, None, refl, sym, ap, ◌∙◌, subst, arith, slice_get}
use Rattle.std.specs.List.{AllByRecursion}
use Rattle.std.specs.Option.{option_or, option_map, option_and_then}
use Rattle.std.proofs.lemmas.Bool.{eqb-true, eq-eqb, and_parts, and_from, not-false, not_from_true, cases_lt}
use Rattle.std.proofs.lemmas.List.{get_or-take, get_or_past, length-take}
use Rattle.avr_reloc.specs.Field.{AreBytes}
use Rattle.component_package.specs.declared.fault.PackageFault.{PackageFault}
use Rattle.component_package.specs.packages.Component.{Component}
use Rattle.component_package.specs.packages.Reading.{first_fault, package_fault, number_of_fault, component_of, header_of}
use Rattle.component_package.proofs.First.{none_or, no_fault, none_first}
use Rattle.component_package.proofs.Lists.{all_at}
use Rattle.component_package.proofs.Laws.{faultless_bytes_spell}
use Rattle.component_package.specs.packages.Grammar.{IsComponent}
use Rattle.component_package.specs.packages.Manifest.{Placed, StoredRelease, Stores}
use Rattle.component_package.specs.mote.Store.{Missing, BadPackage, package_in, HoldsPackage, HasSet, is_same, is_missing, identity_fault, stored_fault, missing_at, bad_package_at, set_fault, held_slot, slots_for}
use Rattle.component_package.specs.mote.Sound.{IsNext}
use Rattle.mote_laws.specs.Steps.{IsUnused}
use Rattle.mote_laws.specs.Sets.{AreByteSlots, SetsAreFaultless, OtherSetsStay}
use Rattle.mote_laws.proofs.Kept.{set_kept, components_kept}
use Rattle.mote_laws.proofs.Slots.{slots_are_found}
use Rattle.component_package.proofs.ManifestLaws.{stored_release_is_one}

-- ---- tests

-- two lists are the same exactly where the test says so
pub same_lists_are : (xs ys : List ℕ) → is_same xs ys ≡ true → xs ≡ ys
same_lists_are [] [] same = refl
same_lists_are [] (y ∷ ys) same = cc
same_lists_are (x ∷ xs) [] same = cc
same_lists_are (x ∷ xs) (y ∷ ys) same =
    let parts = and_parts (eqb x y) (is_same xs ys) same in
    let head = eqb-true x y parts.0 in
    let rest = same_lists_are xs ys parts.1 in
    λ i. head i ∷ rest i

-- a list is the same as itself
pub is_same_itself : (xs : List ℕ) → is_same xs xs ≡ true
is_same_itself [] = refl
is_same_itself (x ∷ xs) = and_from (eqb x x) (is_same xs xs) (eq-eqb x x refl) (is_same_itself xs)

-- what holds at each place holds of all
all_by_places : {X : Type 0} (P : X → Type 0) (xs : List X) → ((k : ℕ) (x : X) → k < length xs → slice_get xs k ≡ Some x → P x) → AllByRecursion P xs
all_by_places P [] each = tt
all_by_places P (x ∷ xs) each = (each 0 x (omega arith) refl, all_by_places P xs (λ k y within at. each (suc k) y (omega arith) at))

-- ---- one entry

-- a package of the entry's has no fault
package_faultless : (store : List (List ℕ)) (p : Placed) → HoldsPackage store p → (is_missing store p ≡ false) × (stored_fault p.entry (package_in store p) ≡ None)
package_faultless store p holds = (
  not_from_true _ (subst (λ (d : List ℕ). is_same d p.entry.digest ≡ true) (sym holds.digest) (is_same_itself p.entry.digest)),
  faultless (package_fault (package_in store p)) (faultless_bytes_spell.faultless (package_in store p) holds.component holds.spelled),
)
  where
    said : component_of (package_in store p) ≡ holds.component
    said = faultless_bytes_spell.said (package_in store p) holds.component holds.spelled

    number : eqb (header_of (package_in store p)).component p.entry.component ≡ true
    number = eq-eqb _ _ (ap (λ (c : Component). c.component) said ∙ holds.number)

    version : eqb (header_of (package_in store p)).version p.entry.version ≡ true
    version = eq-eqb _ _ (ap (λ (c : Component). c.version) said ∙ holds.version)

    faultless : (fault : Option PackageFault) → fault ≡ None → option_or (option_map number_of_fault fault) (identity_fault p.entry (package_in store p)) ≡ None
    faultless None none = ap (λ (b : Bool). cond b None (Some 13)) (and_from _ _ number version)
    faultless (Some x) none = absurd cc

-- and what has no fault is one
faultless_package : (store : List (List ℕ)) (p : Placed) → AreBytes (package_in store p) → is_missing store p ≡ false → stored_fault p.entry (package_in store p) ≡ None → HoldsPackage store p
faultless_package store p bytes there whole = record {
  digest = same_lists_are _ _ (not-false _ there);
  component = component_of (package_in store p);
  spelled = faultless_bytes_spell.spells (package_in store p) bytes (parts (package_fault (package_in store p)) whole).0;
  number = eqb-true _ _ (and_parts _ _ identity).0;
  version = eqb-true _ _ (and_parts _ _ identity).1;
}
  where
    parts : (fault : Option PackageFault) → option_or (option_map number_of_fault fault) (identity_fault p.entry (package_in store p)) ≡ None → (fault ≡ None) × (identity_fault p.entry (package_in store p) ≡ None)
    parts None none = (refl, none)
    parts (Some x) none = absurd cc

    passes : (b : Bool) → cond {A = Option ℕ} b None (Some 13) ≡ None → b ≡ true
    passes true none = refl
    passes false none = absurd cc

    identity : (eqb (header_of (package_in store p)).component p.entry.component && eqb (header_of (package_in store p)).version p.entry.version) ≡ true
    identity = passes _ (parts (package_fault (package_in store p)) whole).1

-- ---- a set

module _ (store : List (List ℕ)) (m : StoredRelease) where
  -- no package of a set is missing
  no_missing : HasSet store m → (k : ℕ) → missing_at store m k ≡ None
  no_missing has k = at (slice_get m.placed k) refl
    where
      at : (o : Option Placed) → slice_get m.placed k ≡ o → option_and_then (λ p. cond (is_missing store p) (Some (Missing k)) None) o ≡ None
      at None is = refl
      at (Some p) is = ap (λ (b : Bool). cond b (Some (Missing k)) None) (package_faultless store p (all_at (HoldsPackage store) m.placed k p has is)).0

  -- and none is bad
  no_bad : HasSet store m → (k : ℕ) → bad_package_at store m k ≡ None
  no_bad has k = at (slice_get m.placed k) refl
    where
      at : (o : Option Placed) → slice_get m.placed k ≡ o → option_and_then (λ p. option_map (BadPackage k) (stored_fault p.entry (package_in store p))) o ≡ None
      at None is = refl
      at (Some p) is = ap (option_map (BadPackage k)) (package_faultless store p (all_at (HoldsPackage store) m.placed k p has is)).1

  -- a set has no fault
  set_faultless : HasSet store m → set_fault store m ≡ None
  set_faultless has = rw (none_first (missing_at store m) (length m.placed) (λ k within. no_missing has k)) (none_first (bad_package_at store m) (length m.placed) (λ k within. no_bad has k))

  -- and what has no fault is a set
  faultless_set : AreByteSlots store → set_fault store m ≡ None → HasSet store m
  faultless_set bytes none = all_by_places (HoldsPackage store) m.placed one
    where
      faults : (first_fault (missing_at store m) (length m.placed) ≡ None) × (first_fault (bad_package_at store m) (length m.placed) ≡ None)
      faults = none_or (first_fault (missing_at store m) (length m.placed)) (first_fault (bad_package_at store m) (length m.placed)) none

      one : (k : ℕ) (p : Placed) → k < length m.placed → slice_get m.placed k ≡ Some p → HoldsPackage store p
      one k p within is = faultless_package store p front there whole
        where
          front : AreBytes (package_in store p)
          front i = ⊎_elim (λ low. rw (get_or-take p.entry.length (get_or store p.slot []) i 0 low) (bytes p.slot i))
              (λ high. rw (get_or_past (take p.entry.length (get_or store p.slot [])) i 0 (omega (arith, length-take p.entry.length (get_or store p.slot [])))) (omega arith)) (cases_lt i p.entry.length)

          passes : (b : Bool) → cond b (Some (Missing k)) None ≡ None → b ≡ false
          passes true h = absurd cc
          passes false h = refl

          there : is_missing store p ≡ false
          there = passes (is_missing store p) (sym (ap (option_and_then (λ p. cond (is_missing store p) (Some (Missing k)) None)) is) ∙ no_fault (missing_at store m) (length m.placed) k faults.0 within)

          free : (o : Option ℕ) → option_map (BadPackage k) o ≡ None → o ≡ None
          free None h = refl
          free (Some x) h = absurd cc

          whole : stored_fault p.entry (package_in store p) ≡ None
          whole = free (stored_fault p.entry (package_in store p)) (sym (ap (option_and_then (λ p. option_map (BadPackage k) (stored_fault p.entry (package_in store p)))) is) ∙ no_fault (bad_package_at store m) (length m.placed) k faults.1 within)

-- the components of a set are the grammar's
are_components : (store : List (List ℕ)) (ps : List Placed) → AllByRecursion (HoldsPackage store) ps → AllByRecursion IsComponent (map (λ p. component_of (package_in store p)) ps)
are_components store [] all = tt
are_components store (p ∷ ps) all = (subst IsComponent (sym (faultless_bytes_spell.said (package_in store p) all.0.component all.0.spelled)) all.0.spelled.component, are_components store ps all.1)

pub sets_are_faultless : SetsAreFaultless
sets_are_faultless = record { faultless = set_faultless; whole = faultless_set; components = λ store m has. are_components store m.placed has }

-- ---- other sets

-- the slot of an entry that isn't held
piece_unused : (current side : List ℕ) (m n : StoredRelease) (k : ℕ) (p : Placed) → IsNext current side → Stores current m → Stores side n → slice_get n.placed k ≡ Some p → held_slot m p.entry ≡ None → IsUnused m p.slot
unfolding IsNext
piece_unused current side m n k p (m2, r, stores2, release, above, next) stores_m stores_n at new =
    let current_is : m2 ≡ m = stored_release_is_one.release current m2 m stores2 stores_m in
    let next_is : slots_for m2 r ≡ n = stored_release_is_one.release side (slots_for m2 r) n next stores_n in
    let whole : slots_for m r ≡ n = ap (λ (c : StoredRelease). slots_for c r) (sym current_is) ∙ next_is in
    slots_are_found.new m r k p stores_m.stored release (ap (λ (s : StoredRelease). slice_get s.placed k) whole ∙ at) new

pub other_sets_stay : OtherSetsStay
other_sets_stay = record { set = set_kept; components = components_kept; piece = piece_unused }
