use Rattle.std.proofs.Common.{ℕ, ◌<◌, sym, ◌∙◌, arith}
use Rattle.spread_core.specs.Sets.{has}
use Rattle.spread_core.specs.Hearing.{pages_at}
use Rattle.spread_core.proofs.SetLemmas.{least-at}
use Rattle.spread_core.proofs.node.Node.first_page.Goals as goal

pub returns-then-has : goal.returns-then-has
returns-then-has c =
    let n : ℕ = pages_at c.args.self.now.manifest c.args.ordinal in
    let lt : c.loop-page.page < n = omega (arith, c.loop-page-test.true, c.pages_of-page-end.ensures.pages) in
    sym (least-at (has c.args.pages) n c.loop-page.page lt c.loop-page.invariant (sym c.has.ensures ∙ c.if-has.true))
