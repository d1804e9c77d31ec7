use Rattle.std.proofs.Common.{◌≡◌, ℕ, ◌<◌, ◌++◌, true}
use Rattle.component_package.specs.mote.Store.{is_taken}
use Rattle.component_store.specs.Slots.{used_slots}
use Rattle.component_store.proofs.slots.least_free.Given as goal

abbrev pub invariant-loop-slot : goal.invariant-loop-slot
invariant-loop-slot l = (k : ℕ) → k < l.slot → is_taken (used_slots l.current ++ l.given) k ≡ true
