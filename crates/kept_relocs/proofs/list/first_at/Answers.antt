use Rattle.std.proofs.Common.{arith, sym, refl, ◌∙◌, ◌*◌}
use Rattle.flash_pages.proofs.Runs.{reads_reads}
use Rattle.component_store.proofs.Calls.{reads_none}
use Rattle.kept_relocs.proofs.First.{ended_before, other_from, first_low}
use Rattle.kept_relocs.proofs.list.first_at.Goals as goal

pub loop-low-init : goal.loop-low-init
loop-low-init g c = record {
  within = omega arith;
  inside = omega arith;
  reads = reads_none (g.B.Board.view c.args.board.now);
  fault = refl;
  keeps = λ s told. c.new-list.ensures s;
  low = λ s told xs l. omega arith;
  high = λ s told xs l. omega (arith, first_low xs (256 * c.args.page), l.few);
}

pub returns-in_default-clause-reads : goal.returns-in_default-clause-reads
returns-in_default-clause-reads g c = reads_reads _ _ _ c.loop-low.invariant.reads c.has_ended.ensures.reads

pub loop-low-preserved-then-ended : goal.loop-low-preserved-then-ended
loop-low-preserved-then-ended g c = record {
  within = omega (arith, c.loop-low-test.true);
  inside = c.loop-low.invariant.inside;
  reads = reads_reads _ _ _ c.loop-low.invariant.reads c.has_ended.ensures.reads;
  fault = c.in-Ok.ensures.faults ∙ c.loop-low.invariant.fault;
  keeps = λ s told. c.in-Ok.ensures.keeps s (c.loop-low.invariant.reads.state ∙ told) (c.loop-low.invariant.keeps s told);
  low = λ s told xs l.
      let ended = c.in-Ok.ensures.ended s (c.loop-low.invariant.reads.state ∙ told) (c.loop-low.invariant.keeps s told) xs l in
      let e = ended_before xs 0 (256 * c.args.page) _ l.rise (sym ended ∙ c.if-ended.true) in
      omega (arith, e);
  high = c.loop-low.invariant.high;
}

pub loop-low-preserved : goal.loop-low-preserved
loop-low-preserved g c = record {
  within = omega (arith, c.loop-low-test.true);
  inside = omega (arith, c.loop-low.invariant.inside, c.loop-low-test.true);
  reads = reads_reads _ _ _ c.loop-low.invariant.reads c.has_ended.ensures.reads;
  fault = c.in-Ok.ensures.faults ∙ c.loop-low.invariant.fault;
  keeps = λ s told. c.in-Ok.ensures.keeps s (c.loop-low.invariant.reads.state ∙ told) (c.loop-low.invariant.keeps s told);
  low = c.loop-low.invariant.low;
  high = λ s told xs l. other_from xs (256 * c.args.page) _ (sym (c.in-Ok.ensures.ended s (c.loop-low.invariant.reads.state ∙ told) (c.loop-low.invariant.keeps s told) xs l) ∙ c.if-ended.false);
}

pub returns-clause-first : goal.returns-clause-first
returns-clause-first g c = λ s told xs l. omega (arith, c.loop-low.invariant.low s told xs l, c.loop-low.invariant.high s told xs l, c.loop-low-test.false, c.loop-low.invariant.within)
