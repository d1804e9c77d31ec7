use Rattle.std.proofs.Common.{◌≡◌, ◌≤◌, ◌+◌, ◌++◌, drop}
use Rattle.release_versions.specs.Numbers.{numbers_from, new_count}
use Rattle.release_versions.proofs.numbers.numbers_from.Given as goal

abbrev pub invariant-loop-number : goal.invariant-loop-number
invariant-loop-number l =
    (numbers_from l.fn.first l.known ≡ l.numbers.items ++ numbers_from l.free (drop l.number-index l.known))
    × (l.free + new_count (drop l.number-index l.known) ≤ 65536)
