use Rattle.std.proofs.Common.{◌≡◌, ◌≤◌, length, take, is_some}
use Rattle.std.specs.Prelude.{filter}
use Rattle.component_package.specs.packages.Manifest.{stored_of}
use Rattle.component_package.specs.mote.Store.{held_slot}
use Rattle.mote_core.proofs.frames.manifest.held_count.Given as goal

abbrev pub invariant-loop-i : goal.invariant-loop-i
invariant-loop-i l = record {
  count : l.count ≡ length (filter (λ e. is_some (held_slot (stored_of l.current) e)) (take l.i l.m.entries));
  few : l.count ≤ l.i;
}
