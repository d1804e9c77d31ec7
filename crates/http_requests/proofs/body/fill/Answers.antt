use Rattle.std.proofs.Common.{arith, ◌∙◌}
use Rattle.std.proofs.lemmas.Grind.{common_steps}
use Rattle.http_heads.proofs.Pieces.{gives_filled}
use Rattle.http_requests.proofs.body.fill.Goals as goal

pub loop-at-preserved : goal.loop-at-preserved
loop-at-preserved g c =
    let was = c.loop-at.invariant in
    record {
      within = grind (arith, common_steps);
      size = grind (arith, common_steps);
      gives = gives_filled c.loop-at.at c.in-Ok.count _ c.loop-at.into c.read.new.into _ _ _ was.within (grind (arith, common_steps)) was.gives c.in-Ok.ensures.ok.gives;
      faults = c.in-Ok.ensures.counts.ok ∙ was.faults;
    }
