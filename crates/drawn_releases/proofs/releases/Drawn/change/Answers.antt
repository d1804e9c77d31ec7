use Rattle.std.proofs.Common.{◌∙◌, ap, ◌+◌, ◌-◌}
use Rattle.drawn_releases.specs.Generator.{Drawn, changed}
use Rattle.drawn_releases.proofs.Drawing.{changed_on}
use Rattle.drawn_releases.proofs.releases.Drawn.change.Goals as goal

pub loop-preserved : goal.loop-preserved
loop-preserved c =
    ap (λ (d : Drawn). changed (c.args.count - (c.loop.counter + 1)) d) c.in_ok-change_one.ensures ∙ changed_on c.args.count c.loop.counter c.loop.self _ c.loop-test.true c.loop.invariant
