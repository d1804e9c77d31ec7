use Rattle.full_linker.proofs.Different.{AreChecked}
use Rattle.full_linker.proofs.set.are_distinct.Given as goal

abbrev pub invariant-loop-i : goal.invariant-loop-i
invariant-loop-i l = AreChecked l.numbers l.i
