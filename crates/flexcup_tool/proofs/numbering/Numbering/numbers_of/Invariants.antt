use Rattle.std.proofs.Common.{◌≡◌, length}
use Rattle.flexcup_tool.proofs.numbering.Numbering.numbers_of.Given as goal

abbrev pub invariant-loop-i : goal.invariant-loop-i
invariant-loop-i l = length l.numbers.items ≡ l.i
