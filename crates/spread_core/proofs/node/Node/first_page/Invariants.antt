use Rattle.std.proofs.Common.{◌≡◌, None}
use Rattle.spread_core.specs.Sets.{has, least}
use Rattle.spread_core.proofs.node.Node.first_page.Given as goal

abbrev pub invariant-loop-page : goal.invariant-loop-page
invariant-loop-page l = least (has l.pages) l.page ≡ None
