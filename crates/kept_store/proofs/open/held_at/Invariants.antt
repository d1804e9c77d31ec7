use Rattle.std.proofs.Common.{◌≡◌, None, take}
use Rattle.std.specs.Prelude.{find}
use Rattle.component_package.specs.mote.Store.{is_same_entry}
use Rattle.kept_manifests.specs.Slots.{stored_of}
use Rattle.kept_store.proofs.open.held_at.Given as goal

abbrev pub invariant-loop-j : goal.invariant-loop-j
invariant-loop-j l = find (λ p. is_same_entry p.entry l.e) (take l.j (stored_of l.current).placed) ≡ None
