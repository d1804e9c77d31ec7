use Rattle.std.proofs.Common.{◌≡◌, true}
use Rattle.spread_core.specs.Sets.{set_of}
use Rattle.spread_core.proofs.sets.first_numbers.Given as goal

abbrev pub invariant-loop-number : goal.invariant-loop-number
invariant-loop-number l = l.set ≡ set_of (λ k. true) l.number
