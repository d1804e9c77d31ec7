use Rattle.std.proofs.Common.{◌≡◌, ◌≤◌, length, take, is_some}
use Rattle.std.specs.Prelude.{filter}
use Rattle.kept_manifests.specs.Slots.{stored_of}
use Rattle.kept_definitions.specs.Kept.{held_slot}
use Rattle.kept_core.proofs.frames.manifest.held_count.Given as goal

abbrev pub invariant-loop-i : goal.invariant-loop-i
invariant-loop-i l = record {
  count : l.count ≡ length (filter (λ e. is_some (held_slot (stored_of l.current) e)) (take l.i l.m.entries));
  few : l.count ≤ l.i;
}
