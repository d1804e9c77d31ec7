-- A stored set that a board holds, as a set that can be linked.
use Rattle.std.proofs.Common.{◌≡◌, ℕ, ◌+◌, ◌*◌, ◌<◌, inl, inr, List, [], ◌∷◌, length, take, drop, map, get_or, refl, sym, ap, ◌∙◌, subst, arith}
use Rattle.std.specs.List.{AllByRecursion}
use Rattle.std.proofs.lemmas.Bool.{cases_lt}
use Rattle.std.proofs.lemmas.List.{get_or_past, length-map}
use Rattle.std.proofs.lemmas.List.Elements.{All-take, All-drop}
use Rattle.std.proofs.lemmas.List.FromFn.{length-map-range_with_len}
use Rattle.avr_reloc.specs.Field.{AreBytes}
use Rattle.flash_pages.specs.State.{State, IsState}
use Rattle.component_package.specs.packages.Component.{Component}
use Rattle.component_package.specs.packages.Manifest.{Placed, StoredRelease, IsStored, AreDistinct}
use Rattle.component_package.specs.packages.Reading.{component_of}
use Rattle.component_package.specs.mote.Store.{slots_of, slot_at, package_in, HoldsPackage, HasSet, components_of}
use Rattle.component_package.proofs.Laws.{faultless_bytes_spell}
use Rattle.component_package.proofs.StoredLemmas.{bytes_joined}
use Rattle.component_package.specs.link.Sets.{IsSet}
use Rattle.mote_laws.specs.Sets.{AreByteSlots}
use Rattle.mote_laws.proofs.Sets.{sets_are_faultless}
use Rattle.component_store.proofs.SlotBytes.{slot_is}

-- whatever slots hold is bytes
pub byte_slots : (s : State) → IsState s → AreByteSlots (slots_of s.ext)
unfolding slots_of
byte_slots s is k =
    elim (cases_lt k 32) [
      | inl lt ↦ subst AreBytes (sym (slot_is s.ext k lt)) (bytes_joined (take 39 (drop (786 + 39 * k) s.ext)) (All-take AreBytes 39 (drop (786 + 39 * k) s.ext) (All-drop AreBytes (786 + 39 * k) s.ext (λ j d lt. (is.ext_pages j d lt).1))))
      | inr past ↦ λ i. subst (λ (b : List ℕ). get_or b i 0 < 256) (sym (get_or_past (slots_of s.ext) k [] (omega (arith, past, slots_length)))) (omega arith)
    ]
  where
    slots_length : length (slots_of s.ext) ≡ 32
    slots_length = length-map-range_with_len (slot_at s.ext) 0 32

-- the components have the numbers of their entries
numbers_are : (store : List (List ℕ)) (ps : List Placed) → AllByRecursion (HoldsPackage store) ps
    → map (λ c. c.component) (map (λ p. component_of (package_in store p)) ps) ≡ map (λ p. p.entry.component) ps
numbers_are store [] all = refl
numbers_are store (p ∷ ps) all =
    let said : component_of (package_in store p) ≡ all.0.component = faultless_bytes_spell.said (package_in store p) all.0.component all.0.spelled in
    let head : (component_of (package_in store p)).component ≡ p.entry.component = ap (λ (c : Component). c.component) said ∙ all.0.number in
    let rest = numbers_are store ps all.1 in
    λ i. head i ∷ rest i

-- a set that slots hold is one that can be linked
pub linkable : (store : List (List ℕ)) (m : StoredRelease) → IsStored m → HasSet store m → IsSet (components_of store m)
linkable store m stored has = record {
  few = omega (arith, length-map m.placed (λ (p : Placed). component_of (package_in store p)), stored.few);
  components = sets_are_faultless.components store m has;
  different = subst AreDistinct (sym (numbers_are store m.placed has)) stored.distinct;
}
