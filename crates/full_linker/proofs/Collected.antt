-- Slots while the components of a set are put in.
use Rattle.std.proofs.Common.{◌≡◌, ℕ, ◌+◌, ◌*◌, ◌≤◌, List, ◌++◌, length, take, map, Some, sym, ap, subst, arith}
use Rattle.std.specs.Prelude.{slice_get}
use Rattle.std.specs.List.{flat_map, enumerate_from}
use Rattle.component_package.specs.declared.part.Export.{Export}
use Rattle.component_package.specs.packages.Component.{Component}
use Rattle.component_package.specs.link.Link.{exports_of}
use Rattle.full_linker.specs.declared.symbols.Slot.{Slot}
use Rattle.full_linker.specs.Slots.{AreSlots}
use Rattle.full_linker.proofs.Added.{empty_slots}
use Rattle.std.specs.BTreeMap.{BTreeMap, btree_map_len, IsEmpty}
use Rattle.full_linker.proofs.Numbered.{flat_numbered_more, numbered_all}

-- the exports of a component with its place
abbrev pub exports_at : ℕ × Component → List (ℕ × Export)
exports_at c = map (λ e. (c.0, e)) c.1.exports

-- the exports of the first k components
abbrev pub first_exports : List Component → ℕ → List (ℕ × Export)
first_exports set k = flat_map exports_at (take k (enumerate_from 0 set))

-- the exports of the first k components are in the slots
pub record AreCollected (set : List Component) (k : ℕ) (now : BTreeMap ℕ Slot) : Type 0 where
  pub slots : AreSlots (first_exports set k) now
  pub small : btree_map_len now ≤ 65535 * k

-- before the first component
pub collected_none : (set : List Component) (slots : BTreeMap ℕ Slot) → IsEmpty slots → AreCollected set 0 slots
collected_none set slots empty = record { slots = empty_slots slots empty; small = omega (arith, ap length empty) }

-- the next component is put in
pub collected_more : (set : List Component) (k : ℕ) (slots next : BTreeMap ℕ Slot) (c : Component) → AreCollected set k slots → slice_get set k ≡ Some c
    → ((xs : List (ℕ × Export)) → AreSlots xs slots → AreSlots (xs ++ map (λ e. (k, e)) c.exports) next) → btree_map_len next ≤ btree_map_len slots + 65535
    → AreCollected set (k + 1) next
collected_more set k slots next c are here after small =
    let more = flat_numbered_more exports_at set k c here in
    record {
      slots = subst (λ xs. AreSlots xs next) (sym more) (after (first_exports set k) are.slots);
      small = omega (arith, are.small, small);
    }

-- all components of a set
pub collected_all : (set : List Component) (k : ℕ) → length set ≤ k → first_exports set k ≡ exports_of set
collected_all set k past = ap (flat_map exports_at) (numbered_all set k past)
