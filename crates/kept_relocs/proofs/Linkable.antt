-- The components of a set that a board holds, as a set that can be linked.
use Rattle.std.proofs.Common.{◌≡◌, ℕ, suc, ◌+◌, ◌<◌, ◌≤◌, List, [], ◌∷◌, length, map, Some, None, refl, sym, ap, ap₂, ◌∙◌, subst, arith}
use Rattle.std.specs.Prelude.{slice_get}
use Rattle.std.specs.List.{AllByRecursion}
use Rattle.std.specs.Option.{option_or}
use Rattle.std.proofs.lemmas.Bool.{le-ltb}
use Rattle.std.proofs.lemmas.Option.{slice_get_within, same_Some}
use Rattle.flash_pages.specs.State.{State}
use Rattle.component_package.specs.packages.Component.{Component}
use Rattle.component_package.specs.packages.Grammar.{IsComponent}
use Rattle.component_package.specs.packages.Manifest.{AreDistinct}
use Rattle.component_package.specs.link.Layout.{code_total, init_total, bss_total}
use Rattle.component_package.specs.link.Link.{Cause, FlashFull, RamFull, above, room_cause, rooms_of}
use Rattle.component_package.specs.link.Sets as link
use Rattle.component_package.proofs.Lists.{length-list_of, slice_get-list_of}
use Rattle.layout_plan.specs.declared.plan.Plan.{Plan}
use Rattle.kept_definitions.specs.Stored.{Placed}
use Rattle.kept_manifests.specs.Slots.{place_of, stored_of}
use Rattle.kept_store.specs.declared.set.StoredSet.{StoredSet}
use Rattle.kept_store.specs.Sets.{IsSet, HoldsSet}
use Rattle.kept_store.specs.Open.{HasRooms}
use Rattle.kept_symbols.specs.Stored.{stored_rooms, IsPlanOf}
use Rattle.kept_relocs.proofs.Held.{same_maps, rooms_are}

-- what is so of each element is so of all
all_from_each : {X : Type 0} (P : X → Type 0) (xs : List X) → ((k : ℕ) (x : X) → slice_get xs k ≡ Some x → P x) → AllByRecursion P xs
all_from_each P [] each = tt
all_from_each P (x ∷ xs) each = (each 0 x refl, all_from_each P xs (λ k y here. each (suc k) y here))

-- a set that a board holds is one that can be linked
pub linkable : (s : State) (set : StoredSet) (components : List Component) → IsSet set → HoldsSet s set components → link.IsSet components
linkable s set components is holds = record {
  few = omega (arith, holds.count, is.manifest.count);
  components = all_from_each IsComponent components (λ k c here. (holds.each k c here).readable.entry.component);
  different = subst AreDistinct (sym numbers) is.manifest.stored.distinct;
}
  where
    places : List Placed
    places = (stored_of set.slots).placed

    count : length places ≡ set.slots.manifest.count
    count = length-list_of (place_of set.slots) set.slots.manifest.count

    -- the components have the numbers of their entries
    number : (k : ℕ) (c : Component) (p : Placed) → slice_get components k ≡ Some c → slice_get places k ≡ Some p → c.component ≡ p.entry.component
    number k c p here there =
        let lt : k < set.slots.manifest.count = omega (arith, slice_get_within components k c here, holds.count) in
        let place : place_of set.slots k ≡ p = same_Some (place_of set.slots k) p (sym (slice_get-list_of (place_of set.slots) set.slots.manifest.count k lt) ∙ there) in
        (holds.each k c here).readable.entry.number ∙ ap (λ (q : Placed). q.entry.component) place

    numbers : map (λ (c : Component). c.component) components ≡ map (λ (p : Placed). p.entry.component) places
    numbers = same_maps (λ (c : Component). c.component) (λ (p : Placed). p.entry.component) components places (holds.count ∙ sym count) number

-- and has room where there is a plan
pub has_room : (s : State) (set : StoredSet) (components : List Component) (p : Plan) → IsSet set → HasRooms set → HoldsSet s set components → IsPlanOf set p → room_cause (rooms_of components) ≡ None
has_room s set components p is rooms holds plan =
    let rs = stored_rooms set in
    let flash : code_total rs + init_total rs ≤ 122880 = omega (arith, plan.plan.code_total, plan.plan.init_total, plan.planned.flash) in
    let ram : init_total rs + bss_total rs ≤ 3584 = omega (arith, plan.plan.init_total, plan.plan.bss_total, plan.planned.ram) in
    ap room_cause (rooms_are s set components is rooms holds)
    ∙ ap₂ option_or (not_above 122880 FlashFull (code_total rs + init_total rs) flash) (not_above 3584 RamFull (init_total rs + bss_total rs) ram)
  where
    not_above : (limit : ℕ) (f : ℕ → Cause) (n : ℕ) → n ≤ limit → above limit f n ≡ None
    not_above limit f n le = rw (le-ltb limit n le) refl
