use Rattle.std.proofs.Common.{◌≡◌, ℕ, ◌<◌, true, false, length, take}
use Rattle.std.specs.Prelude.{◌==◌, slice_index_or}
use Rattle.std.specs.List.{list_any}
use Rattle.release_judging.specs.Judging.{are_distinct}
use Rattle.release_versions.proofs.numbers.are_distinct.Given as goal

abbrev pub invariant-loop-number : goal.invariant-loop-number
invariant-loop-number l =
    (length l.seen.items ≡ l.bound)
    × ((k : ℕ) → k < l.bound → slice_index_or l.seen.items k false ≡ list_any (λ m. m == k) (take l.number-index l.numbers))
    × (are_distinct (take l.number-index l.numbers) ≡ true)
