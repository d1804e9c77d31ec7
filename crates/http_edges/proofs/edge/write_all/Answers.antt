use Rattle.std.proofs.Common.{arith, refl, ◌∙◌, ◌+◌}
use Rattle.http_edges.proofs.Pieces.{appends_none, written_more, written_all}
use Rattle.http_edges.proofs.edge.write_all.Goals as goal

pub loop-at-init : goal.loop-at-init
loop-at-init g c = record { within = omega arith; written = appends_none _; faults = refl }

pub loop-at-preserved : goal.loop-at-preserved
loop-at-preserved g c = record {
  within = omega (arith, c.in-Ok.ensures.ok.within);
  written = written_more _ _ _ _ _ _ c.loop-at.invariant.written c.in-Ok.ensures.ok.appends;
  faults = c.in-Ok.ensures.counts.ok ∙ c.loop-at.invariant.faults;
}

pub returns-clause-ok : goal.returns-clause-ok
returns-clause-ok g c = written_all _ _ _ _ c.loop-at-test.false c.loop-at.invariant.written

pub returns-in_default-clause-part : goal.returns-in_default-clause-part
returns-in_default-clause-part g c = record {
  count = c.loop-at.at + c.in_default.ensures.part.count;
  appends = written_more _ _ _ _ _ _ c.loop-at.invariant.written c.in_default.ensures.part.appends;
}
