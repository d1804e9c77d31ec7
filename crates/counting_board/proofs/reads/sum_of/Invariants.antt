use Rattle.std.proofs.Common.{◌≡◌, take}
use Rattle.std.specs.List.{sum}
use Rattle.counting_board.specs.Counting.{saturated}
use Rattle.counting_board.proofs.reads.sum_of.Given as goal

abbrev pub invariant-loop-count : goal.invariant-loop-count
invariant-loop-count l = l.all ≡ saturated (sum (take l.count-index l.counts))
