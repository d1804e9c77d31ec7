use Rattle.flexcup_tool.proofs.Different.{AreChecked}
use Rattle.flexcup_tool.proofs.numbering.are_distinct.Given as goal

abbrev pub invariant-loop-i : goal.invariant-loop-i
invariant-loop-i l = AreChecked l.numbers l.i
