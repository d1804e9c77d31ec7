use Rattle.std.proofs.Common.{take}
use Rattle.sqlite_keeper.specs.Stored.{ArePartsFrom}
use Rattle.sqlite_keeper.proofs.values.parts_in.Given as goal

abbrev pub invariant-loop-row : goal.invariant-loop-row
invariant-loop-row l = ArePartsFrom 0 (take l.row-index l.rows) l.parts.items
