use Rattle.std.proofs.Common.{◌∙◌, ap, suc}
use Rattle.drawn_releases.specs.Generator.{next_release}
use Rattle.rehearsal.proofs.release.Release.advance.Goals as goal

pub invariant_of-result : goal.invariant_of-result
invariant_of-result c = record {
  number = c.self.invariant.number;
  count = suc c.self.invariant.count;
  is = c.in_ok-advance.ensures ∙ ap next_release c.self.invariant.is;
}

pub returns : goal.returns
returns c = c.in_ok-advance.ensures ∙ ap next_release c.self.view_is
