-- The set that a board holds is one of the grammar, with the rooms of its headers.
use Rattle.std.proofs.Common.{◌≡◌, ℕ, suc, ◌+◌, ◌*◌, ◌<◌, ◌≤◌, inl, inr, List, [], ◌∷◌, length, take, drop, map, Some, None, refl, sym, ap, subst, ◌∙◌, arith, get_or}
use Rattle.std.specs.Prelude.{slice_get, All}
use Rattle.std.specs.List.{AllByRecursion}
use Rattle.std.specs.Option.{option_or}
use Rattle.std.proofs.lemmas.Bool.{cases_lt}
use Rattle.std.proofs.lemmas.List.{get_or_past, length-take-le, length-map}
use Rattle.std.proofs.lemmas.List.Elements.{All-take, All-drop}
use Rattle.std.proofs.lemmas.List.FromFn.{length-map-range_with_len}
use Rattle.std.proofs.lemmas.Option.{slice_get_within, get_or_from_slice_get}
use Rattle.flash_pages.specs.State.{State, IsState}
use Rattle.component_package.specs.declared.part.Header.{Header}
use Rattle.component_package.specs.declared.manifest.SlotManifest.{SlotManifest}
use Rattle.component_package.specs.packages.Component.{Component}
use Rattle.component_package.specs.packages.Reading.{header_of, header_fault, exports_fault, relocs_fault, component_of, package_fault}
use Rattle.component_package.specs.link.Layout.{room_of}
use Rattle.component_package.specs.packages.Manifest.{Placed, AreDistinct, stored_of}
use Rattle.component_package.specs.mote.Store.{slot_at, slots_of, package_in, HoldsPackage, HasSet, components_of}
use Rattle.component_package.proofs.First.{none_or}
use Rattle.component_package.proofs.HeaderLemmas.{good_header, parts_have_lengths}
use Rattle.component_package.proofs.Laws.{faultless_bytes_spell}
use Rattle.component_package.proofs.StoredLemmas.{bytes_joined, length-pairs, the_placed}
use Rattle.mote_laws.specs.Sets.{AreByteSlots}
use Rattle.mote_laws.proofs.Sets.{sets_are_faultless}
use Rattle.component_store.specs.declared.set.StoredSet.{StoredSet}
use Rattle.component_store.specs.Reader.{held_package}
use Rattle.component_store.specs.Sets.{IsSet, HasRooms, HoldsSet, header_at}
use Rattle.component_store.proofs.PartLemmas.{IsHeld, held_component}
use Rattle.component_store.proofs.SlotBytes.{slot_is}
use Rattle.symbol_merge.specs.Stored.{set_in, header_room, IsOwnSet}
use Rattle.symbol_merge.proofs.Elements.{get_take}

no_slot : (ext : List (List ℕ)) (k : ℕ) → 32 ≤ k → get_or (slots_of ext) k [] ≡ []
unfolding slots_of
no_slot ext k past = get_or_past (slots_of ext) k [] (omega (arith, length-map-range_with_len (slot_at ext) 0 32))

-- slots are bytes
byte_slots : (s : State) → IsState s → AreByteSlots (slots_of s.ext)
byte_slots s is k = elim (cases_lt k 32) [
  | inl low ↦
      let first : ℕ = 786 + 39 * k in
      let pages : List (List ℕ) = take 39 (drop first s.ext) in
      let Bytes : List ℕ → Type 0 = λ p. (i : ℕ) → get_or p i 0 < 256 in
      let each : All Bytes pages = All-take Bytes 39 (drop first s.ext) (All-drop Bytes first s.ext (λ j d lt. (is.ext_pages j d lt).1)) in
      subst Bytes (sym (slot_is s.ext k low)) (bytes_joined pages each)
  | inr past ↦ subst (λ (b : List ℕ). (i : ℕ) → get_or b i 0 < 256) (sym (no_slot s.ext k past)) (λ i. omega arith)
]

-- components have the numbers of their entries
numbers : (store : List (List ℕ)) (ps : List Placed) → AllByRecursion (HoldsPackage store) ps
    → map (λ (c : Component). c.component) (map (λ p. component_of (package_in store p)) ps) ≡ map (λ p. p.entry.component) ps
numbers store [] all = refl
numbers store (p ∷ ps) all =
    let said = faultless_bytes_spell.said (package_in store p) all.0.component all.0.spelled in
    let here : (component_of (package_in store p)).component ≡ p.entry.component = ap (λ (c : Component). c.component) said ∙ all.0.number in
    ap (λ n. n ∷ map (λ (c : Component). c.component) (map (λ q. component_of (package_in store q)) ps)) here ∙ ap (λ ns. p.entry.component ∷ ns) (numbers store ps all.1)

-- lists that have the same image, element by element
same_images : {X Y Z : Type 0} (f : X → Z) (g : Y → Z) (xs : List X) (ys : List Y) → length xs ≡ length ys
    → ((k : ℕ) (x : X) (y : Y) → slice_get xs k ≡ Some x → slice_get ys k ≡ Some y → f x ≡ g y) → map f xs ≡ map g ys
same_images f g [] [] n each = refl
same_images f g [] (y ∷ ys) n each = absurd (omega arith)
same_images f g (x ∷ xs) [] n each = absurd (omega arith)
same_images {Z = Z} f g (x ∷ xs) (y ∷ ys) n each =
    let here : f x ≡ g y = each 0 x y refl refl in
    ap (λ (z : Z). z ∷ map f xs) here ∙ ap (λ (zs : List Z). g y ∷ zs) (same_images f g xs ys (omega arith) (λ k a b p q. each (suc k) a b p q))

-- a package without a fault has the room that its header says
room_is : (b : List ℕ) → package_fault b ≡ None → room_of (component_of b) ≡ header_room (header_of b)
room_is b sound =
    let parts = none_or (header_fault b (length b)) (option_or (exports_fault b) (relocs_fault b)) sound in
    ap header_room (parts_have_lengths b (good_header b parts.0).whole)

-- a stored release has as many entries as its manifest counts
number_of : (m : SlotManifest) → m.manifest.count ≤ 16 → length m.manifest.entries ≡ 16 → length m.slots ≡ 16 → (store : List (List ℕ)) → length (components_of store (stored_of m)) ≡ m.manifest.count
number_of m few entries slots store = length-map (stored_of m).placed (λ p. component_of (package_in store p)) ∙ length-pairs (λ x. the_placed x) m.manifest.entries m.slots m.manifest.count (omega arith) (omega arith)

pub held_set : (s : State) (set : StoredSet) → IsState s → IsSet set → HasRooms set → HoldsSet s set → IsOwnSet s set
held_set s set state is rooms holds = record {
  is = record {
    few = omega (arith, count, few);
    components = sets_are_faultless.components store (stored_of set.slots) has;
    different = subst AreDistinct (sym (numbers store (stored_of set.slots).placed has)) is.manifest.stored.distinct;
  };
  count = count;
  rooms = same_images room_of header_room (set_in s set) (take set.slots.manifest.count set.headers) (omega (arith, count, taken)) room_at;
}
  where
    few : set.slots.manifest.count ≤ 16
    few = is.manifest.count

    store : List (List ℕ)
    store = slots_of s.ext

    has : HasSet store (stored_of set.slots)
    has = sets_are_faultless.whole store (stored_of set.slots) (byte_slots s state) holds.whole

    count : length (set_in s set) ≡ set.slots.manifest.count
    count = number_of set.slots few rooms.entries rooms.slots store

    taken : length (take set.slots.manifest.count set.headers) ≡ set.slots.manifest.count
    taken = length-take-le set.slots.manifest.count set.headers (omega (arith, few, rooms.headers))

    room_at : (k : ℕ) (c : Component) (h : Header) → slice_get (set_in s set) k ≡ Some c → slice_get (take set.slots.manifest.count set.headers) k ≡ Some h → room_of c ≡ header_room h
    room_at k c h at head =
        let below : k < set.slots.manifest.count = omega (arith, taken, slice_get_within (take set.slots.manifest.count set.headers) k h head) in
        let none : Header = record { component = 0; version = 0; code = 0; init = 0; bss = 0; exports = 0; relocs = 0 } in
        let here : header_at set k ≡ h = get_or_from_slice_get set.headers k h none (sym (get_take set.headers set.slots.manifest.count k below) ∙ head) in
        let held : IsHeld s (get_or set.slots.slots k 0) (header_at set k) c = held_component s set k c is rooms below holds at in
        let b : List ℕ = held_package s (get_or set.slots.slots k 0) (header_at set k) in
        ap room_of held.component ∙ room_is b held.sound ∙ ap header_room (sym held.header ∙ here)
