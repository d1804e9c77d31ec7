use Rattle.std.proofs.Common.{◌≡◌, ◌≤◌, ◌+◌, ◌++◌, drop}
use Rattle.release_versions.specs.Numbers.{rows_from, new_count}
use Rattle.release_versions.proofs.numbers.rows_from.Given as goal

abbrev pub invariant-loop-i : goal.invariant-loop-i
invariant-loop-i l =
    (rows_from l.fn.first l.names l.known ≡ l.rows.items ++ rows_from l.free (drop l.i l.names) (drop l.i l.known))
    × (l.free + new_count (drop l.i l.known) ≤ 65536)
