-- A stored set that a board holds, as a set that can be linked.
use Rattle.std.proofs.Common.{◌≡◌, ℕ, ◌+◌, ◌*◌, ◌<◌, ◌≤◌, inl, inr, List, [], ◌∷◌, length, take, drop, map, get_or, None, refl, sym, ap, ap₂, ◌∙◌, subst, arith}
use Rattle.std.specs.List.{AllByRecursion}
use Rattle.std.specs.Option.{option_or}
use Rattle.std.proofs.lemmas.Bool.{cases_lt, le-ltb}
use Rattle.std.proofs.lemmas.List.{get_or_past}
use Rattle.std.proofs.lemmas.List.Elements.{All-take, All-drop}
use Rattle.std.proofs.lemmas.List.FromFn.{length-map-range_with_len}
use Rattle.avr_reloc.specs.Field.{AreBytes}
use Rattle.flash_pages.specs.State.{State, IsState}
use Rattle.component_package.specs.packages.Component.{Component}
use Rattle.component_package.specs.link.Link.{Cause, FlashFull, RamFull, above, room_cause, rooms_of}
use Rattle.component_package.specs.link.Layout.{code_total, init_total, bss_total}
use Rattle.component_package.specs.packages.Manifest.{Placed, AreDistinct, stored_of}
use Rattle.component_package.specs.packages.Reading.{component_of}
use Rattle.component_package.specs.mote.Store.{slots_of, slot_at, package_in, HoldsPackage, HasSet}
use Rattle.component_package.proofs.Laws.{faultless_bytes_spell}
use Rattle.component_package.proofs.StoredLemmas.{bytes_joined}
use Rattle.layout_plan.specs.declared.plan.Plan.{Plan}
use Rattle.component_package.specs.link.Sets as link
use Rattle.mote_laws.specs.Sets.{AreByteSlots}
use Rattle.mote_laws.proofs.Sets.{sets_are_faultless}
use Rattle.component_store.specs.declared.set.StoredSet.{StoredSet}
use Rattle.component_store.specs.Sets.{IsSet, HoldsSet, HasRooms}
use Rattle.component_store.proofs.SlotBytes.{slot_is}
use Rattle.symbol_merge.specs.Stored.{set_in, stored_rooms, IsPlanOf}
use Rattle.reloc_table.proofs.Held.{set_length, rooms_are}

-- whatever slots hold is bytes
byte_slots : (s : State) → IsState s → AreByteSlots (slots_of s.ext)
unfolding slots_of
byte_slots s is k =
    elim (cases_lt k 32) [
      | inl lt ↦ subst AreBytes (sym (slot_is s.ext k lt)) (bytes_joined (take 39 (drop (786 + 39 * k) s.ext)) (All-take AreBytes 39 (drop (786 + 39 * k) s.ext) (All-drop AreBytes (786 + 39 * k) s.ext (λ j d lt. (is.ext_pages j d lt).1))))
      | inr past ↦ λ i. subst (λ (b : List ℕ). get_or b i 0 < 256) (sym (get_or_past (slots_of s.ext) k [] (omega (arith, past, slots_length)))) (omega arith)
    ]
  where
    slots_length : length (slots_of s.ext) ≡ 32
    slots_length = length-map-range_with_len (slot_at s.ext) 0 32

-- the components have the numbers of their entries
numbers_are : (store : List (List ℕ)) (ps : List Placed) → AllByRecursion (HoldsPackage store) ps
    → map (λ c. c.component) (map (λ p. component_of (package_in store p)) ps) ≡ map (λ p. p.entry.component) ps
numbers_are store [] all = refl
numbers_are store (p ∷ ps) all =
    let said : component_of (package_in store p) ≡ all.0.component = faultless_bytes_spell.said (package_in store p) all.0.component all.0.spelled in
    let head : (component_of (package_in store p)).component ≡ p.entry.component = ap (λ (c : Component). c.component) said ∙ all.0.number in
    let rest = numbers_are store ps all.1 in
    λ i. head i ∷ rest i

-- a set that a board holds is one that can be linked
pub linkable : (s : State) (set : StoredSet) → IsState s → IsSet set → HasRooms set → HoldsSet s set → link.IsSet (set_in s set)
linkable s set sizes is rooms holds =
    let store = slots_of s.ext in
    let m = stored_of set.slots in
    let has : HasSet store m = sets_are_faultless.whole store m (byte_slots s sizes) holds.whole in
    record {
      few = omega (arith, set_length s set is rooms, is.manifest.count);
      components = sets_are_faultless.components store m has;
      different = subst AreDistinct (sym (numbers_are store m.placed has)) is.manifest.stored.distinct;
    }

-- and has room where there is a plan
pub has_room : (s : State) (set : StoredSet) (p : Plan) → IsSet set → HasRooms set → HoldsSet s set → IsPlanOf set p → room_cause (rooms_of (set_in s set)) ≡ None
has_room s set p is rooms holds plan =
    let rs = stored_rooms set in
    let flash : code_total rs + init_total rs ≤ 122880 = omega (arith, plan.plan.code_total, plan.plan.init_total, plan.planned.flash) in
    let ram : init_total rs + bss_total rs ≤ 3584 = omega (arith, plan.plan.init_total, plan.plan.bss_total, plan.planned.ram) in
    ap room_cause (rooms_are s set is rooms holds)
    ∙ ap₂ option_or (not_above 122880 FlashFull (code_total rs + init_total rs) flash) (not_above 3584 RamFull (init_total rs + bss_total rs) ram)
  where
    not_above : (limit : ℕ) (f : ℕ → Cause) (n : ℕ) → n ≤ limit → above limit f n ≡ None
    not_above limit f n le = rw (le-ltb limit n le) refl
