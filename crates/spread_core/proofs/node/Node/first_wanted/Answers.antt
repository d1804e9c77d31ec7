use Rattle.std.proofs.Common.{ℕ, sym, ◌∙◌}
use Rattle.std.specs.Prelude.{◌&&◌}
use Rattle.spread_core.specs.Sets.{has}
use Rattle.spread_core.specs.Hearing.{is_wanted}
use Rattle.spread_core.proofs.SetLemmas.{least-at, both}
use Rattle.spread_core.proofs.node.Node.first_wanted.Goals as goal

pub returns-then-is_wanted-clause-first : goal.returns-then-is_wanted-clause-first
returns-then-is_wanted-clause-first c =
    let n = c.args.self.now in
    let i : ℕ = c.loop-ordinal.ordinal in
    let here = both (has c.args.whole i) (is_wanted n i) (sym c.has.ensures ∙ c.if-has.true) (sym c.is_wanted.ensures ∙ c.if-is_wanted.true) in
    sym (least-at (λ k. has c.args.whole k && is_wanted n k) n.manifest.count i c.loop-ordinal-test.true c.loop-ordinal.invariant here)
