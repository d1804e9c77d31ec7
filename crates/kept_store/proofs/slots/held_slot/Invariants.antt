use Rattle.std.proofs.Common.{◌≡◌, None, take}
use Rattle.std.specs.Prelude.{find}
use Rattle.component_package.specs.mote.Store.{is_same_entry}
use Rattle.kept_manifests.specs.Slots.{stored_of}
use Rattle.kept_store.proofs.slots.held_slot.Given as goal

abbrev pub invariant-loop-i : goal.invariant-loop-i
invariant-loop-i l = find (λ p. is_same_entry p.entry l.e) (take l.i (stored_of l.current).placed) ≡ None
