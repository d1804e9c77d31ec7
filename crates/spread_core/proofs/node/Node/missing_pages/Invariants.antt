use Rattle.std.proofs.Common.{◌≡◌}
use Rattle.std.specs.Prelude.{not}
use Rattle.spread_core.specs.Sets.{set_of}
use Rattle.spread_core.specs.Hearing.{is_had}
use Rattle.spread_core.proofs.node.Node.missing_pages.Given as goal

abbrev pub invariant-loop-page : goal.invariant-loop-page
invariant-loop-page l = l.missing ≡ set_of (λ p. not (is_had l.self l.ordinal p)) l.page
