use Rattle.std.proofs.Common.{◌∙◌, ap, ◌+◌, ◌-◌}
use Rattle.drawn_releases.specs.Generator.{Drawn, with_more}
use Rattle.drawn_releases.proofs.Drawing.{more_on}
use Rattle.drawn_releases.proofs.releases.Drawn.make_all.Goals as goal

pub loop-component-preserved : goal.loop-component-preserved
loop-component-preserved c =
    let k = c.loop-component.component in
    ap (λ (d : Drawn). with_more (13 - (k + 1)) (k + 1) d) c.in_ok-make_one.ensures ∙ more_on k c.loop-component.self _ c.loop-component-test.true c.loop-component.invariant
