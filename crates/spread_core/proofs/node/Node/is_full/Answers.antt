use Rattle.std.proofs.Common.{◌==◌, Bool, ℕ, sym, ap, subst}
use Rattle.std.specs.Prelude.{◌↔◌, IsTrue, ◌<◌}
use Rattle.spread_core.specs.declared.node.Node.{Node}
use Rattle.spread_core.specs.Hearing.{pages_at, is_had}
use Rattle.spread_core.proofs.Steps.{full_where}
use Rattle.spread_core.proofs.node.Node.is_full.Goals as goal

pub returns-clause-each : goal.returns-clause-each
returns-clause-each c =
    let n : Node = c.args.self.now in
    let k : ℕ = c.args.ordinal in
    subst (λ (b : Bool). IsTrue b ↔ ((p : ℕ) → p < pages_at n.manifest k → IsTrue (is_had n k p))) (sym (ap (λ (s : ℕ). s == 0) c.missing_pages.ensures)) (full_where n k)
