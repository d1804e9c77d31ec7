use Rattle.std.proofs.Common.{◌≡◌, drop}
use Rattle.release_judging.specs.Judging.{are_distinct}
use Rattle.release_judging.proofs.numbers.are_distinct.Given as goal

abbrev pub invariant-loop-i : goal.invariant-loop-i
invariant-loop-i l = are_distinct l.numbers ≡ are_distinct (drop l.i l.numbers)
