use Rattle.std.proofs.Common.{◌≡◌, None}
use Rattle.std.specs.Prelude.{◌&&◌}
use Rattle.spread_core.specs.Sets.{has, least}
use Rattle.spread_core.specs.Hearing.{is_wanted}
use Rattle.spread_core.proofs.node.Node.first_wanted.Given as goal

abbrev pub invariant-loop-ordinal : goal.invariant-loop-ordinal
invariant-loop-ordinal l = least (λ k. has l.whole k && is_wanted l.self k) l.ordinal ≡ None
