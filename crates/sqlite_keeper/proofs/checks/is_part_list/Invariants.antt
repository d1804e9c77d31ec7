use Rattle.sqlite_keeper.proofs.Distinct.{AreApart}
use Rattle.sqlite_keeper.proofs.checks.is_part_list.Given as goal

abbrev pub invariant-loop-at : goal.invariant-loop-at
invariant-loop-at l = AreApart l.parts l.at
