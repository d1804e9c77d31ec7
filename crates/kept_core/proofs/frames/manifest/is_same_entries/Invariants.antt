use Rattle.std.proofs.Common.{◌≡◌, length, drop}
use Rattle.component_package.specs.mote.Machine.{is_same_entries}
use Rattle.kept_core.proofs.frames.manifest.is_same_entries.Given as goal

abbrev pub invariant-loop-i : goal.invariant-loop-i
invariant-loop-i l = record {
  rest : is_same_entries (drop l.i l.a) (drop l.i l.b) ≡ is_same_entries l.a l.b;
  long : length l.b ≡ length l.a;
}
