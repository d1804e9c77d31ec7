-- The components of a set that a board holds are a set of the grammar, with the rooms of its headers.
use Rattle.std.proofs.Common.{◌≡◌, ℕ, suc, ◌<◌, ◌≤◌, List, [], ◌∷◌, length, take, map, Some, refl, sym, ap, subst, ◌∙◌, arith}
use Rattle.std.specs.Prelude.{slice_get}
use Rattle.std.specs.List.{AllByRecursion}
use Rattle.std.proofs.lemmas.List.{length-take-le}
use Rattle.std.proofs.lemmas.Option.{slice_get_within, same_Some, get_or_from_slice_get}
use Rattle.flash_pages.specs.State.{State}
use Rattle.component_package.specs.declared.part.Header.{Header}
use Rattle.component_package.specs.packages.Component.{Component}
use Rattle.component_package.specs.packages.Grammar.{IsComponent}
use Rattle.component_package.specs.packages.Manifest.{AreDistinct}
use Rattle.component_package.specs.link.Layout.{room_of}
use Rattle.component_package.proofs.Lists.{length-list_of, slice_get-list_of}
use Rattle.kept_definitions.specs.Stored.{Placed}
use Rattle.kept_manifests.specs.Slots.{place_of, stored_of}
use Rattle.kept_store.specs.declared.set.StoredSet.{StoredSet}
use Rattle.kept_store.specs.Open.{HasRooms}
use Rattle.kept_store.specs.Sets.{IsSet, HoldsSet, no_header, header_at}
use Rattle.kept_symbols.specs.Stored.{header_room, IsOwnSet}
use Rattle.kept_symbols.proofs.Elements.{get_take}

-- lists that have the same image, element by element
same_images : {X Y Z : Type 0} (f : X → Z) (g : Y → Z) (xs : List X) (ys : List Y) → length xs ≡ length ys
    → ((k : ℕ) (x : X) (y : Y) → slice_get xs k ≡ Some x → slice_get ys k ≡ Some y → f x ≡ g y) → map f xs ≡ map g ys
same_images f g [] [] n each = refl
same_images f g [] (y ∷ ys) n each = absurd (omega arith)
same_images f g (x ∷ xs) [] n each = absurd (omega arith)
same_images {Z = Z} f g (x ∷ xs) (y ∷ ys) n each =
    let here : f x ≡ g y = each 0 x y refl refl in
    ap (λ (z : Z). z ∷ map f xs) here ∙ ap (λ (zs : List Z). g y ∷ zs) (same_images f g xs ys (omega arith) (λ k a b p q. each (suc k) a b p q))

-- what holds of each element, place by place
all_from : {X : Type 0} (P : X → Type 0) (xs : List X) → ((k : ℕ) (x : X) → slice_get xs k ≡ Some x → P x) → AllByRecursion P xs
all_from P [] each = tt
all_from P (x ∷ xs) each = (each 0 x refl, all_from P xs (λ k y at. each (suc k) y at))

pub held_set : (s : State) (set : StoredSet) (components : List Component) → IsSet set → HasRooms set → HoldsSet s set components → IsOwnSet set components
held_set s set components is rooms holds = record {
  is = record {
    few = omega (arith, count, few);
    components = all_from IsComponent components (λ k c at. (holds.each k c at).readable.entry.component);
    different = subst AreDistinct (sym numbers) is.manifest.stored.distinct;
  };
  count = count;
  rooms = same_images room_of header_room components (take set.slots.manifest.count set.headers) (omega (arith, count, taken)) room_at;
}
  where
    few : set.slots.manifest.count ≤ 16
    few = is.manifest.count

    count : length components ≡ set.slots.manifest.count
    count = holds.count

    taken : length (take set.slots.manifest.count set.headers) ≡ set.slots.manifest.count
    taken = length-take-le set.slots.manifest.count set.headers (omega (arith, few, rooms.headers))

    placed : length (stored_of set.slots).placed ≡ set.slots.manifest.count
    placed = length-list_of (place_of set.slots) set.slots.manifest.count

    numbers : map (λ (c : Component). c.component) components ≡ map (λ (p : Placed). p.entry.component) (stored_of set.slots).placed
    numbers = same_images (λ (c : Component). c.component) (λ (p : Placed). p.entry.component) components (stored_of set.slots).placed (omega (arith, count, placed)) (λ k c p at there.
        let below : k < set.slots.manifest.count = omega (arith, count, slice_get_within components k c at) in
        let same : place_of set.slots k ≡ p = same_Some (place_of set.slots k) p (sym (slice_get-list_of (place_of set.slots) set.slots.manifest.count k below) ∙ there) in
        (holds.each k c at).readable.entry.number ∙ ap (λ (q : Placed). q.entry.component) same)

    room_at : (k : ℕ) (c : Component) (h : Header) → slice_get components k ≡ Some c → slice_get (take set.slots.manifest.count set.headers) k ≡ Some h → room_of c ≡ header_room h
    room_at k c h at head =
        let below : k < set.slots.manifest.count = omega (arith, taken, slice_get_within (take set.slots.manifest.count set.headers) k h head) in
        let here : header_at set k ≡ h = get_or_from_slice_get set.headers k h no_header (sym (get_take set.headers set.slots.manifest.count k below) ∙ head) in
        ap header_room (sym (holds.each k c at).header ∙ here)
