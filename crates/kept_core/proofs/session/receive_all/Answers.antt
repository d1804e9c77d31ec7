use Rattle.std.proofs.Common.{arith, ◌∙◌, drop}
use Rattle.std.proofs.lemmas.Grind.{common_steps}
use Rattle.kept_core.proofs.Streams.{read_more, taken}
use Rattle.flash_pages.proofs.Runs.{receives_then}
use Rattle.kept_core.proofs.session.receive_all.Goals as goal

pub loop-at-preserved : goal.loop-at-preserved
loop-at-preserved g c = record {
  within = grind (arith, common_steps);
  left = λ bytes told.
      let was = c.loop-at.invariant.left bytes told in
      let got = c.in-Ok.ensures.ok.bytes was.0 was.1 in (
        drop c.in-Ok.count was.0,
        got.0,
        read_more c.loop-at.at c.in-Ok.count _ c.loop-at.into c.receive.new.into _ _ _ c.loop-at.invariant.within (grind (arith, common_steps)) was.2 (taken c.in-Ok.count c.receive.new.into was.0 got.1),
      );
  state = c.in-Ok.ensures.state ∙ c.loop-at.invariant.state;
  line = receives_then _ _ _ c.loop-at.invariant.line c.loop-at.invariant.state c.in-Ok.ensures.line;
  fault = c.in-Ok.ensures.faults ∙ c.loop-at.invariant.fault;
}

pub returns-in_default-clause-line : goal.returns-in_default-clause-line
returns-in_default-clause-line g c = receives_then _ _ _ c.loop-at.invariant.line c.loop-at.invariant.state c.in_default.ensures.line

pub returns-then-count-eq0-clause-line : goal.returns-then-count-eq0-clause-line
returns-then-count-eq0-clause-line g c = receives_then _ _ _ c.loop-at.invariant.line c.loop-at.invariant.state c.in-Ok.ensures.line
