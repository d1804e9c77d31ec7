use Rattle.std.proofs.Common.{◌≡◌, ◌≤◌, ◌*◌, ◌+◌, ◌++◌, take, length}
use Rattle.component_package.specs.mote.Lines.{spaced}
use Rattle.kept_core.proofs.line.put_line.Given as goal

abbrev pub invariant-loop-n : goal.invariant-loop-n
invariant-loop-n l = record {
  within : l.at ≤ length l.words + 11 * l.n-index;
  bytes : take l.at l.into ≡ l.words ++ spaced (take l.n-index l.numbers);
}
