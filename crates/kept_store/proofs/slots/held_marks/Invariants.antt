use Rattle.std.proofs.Common.{take}
use Rattle.kept_definitions.specs.Kept.{held_slots}
use Rattle.kept_manifests.specs.Slots.{stored_of}
use Rattle.kept_store.specs.Slots.{AreMarked}
use Rattle.kept_store.proofs.slots.held_marks.Given as goal

abbrev pub invariant-loop-i : goal.invariant-loop-i
invariant-loop-i l = AreMarked l.taken (held_slots (stored_of l.current) (take l.i l.incoming.entries))
