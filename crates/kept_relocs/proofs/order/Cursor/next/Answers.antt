use Rattle.std.proofs.Common.{sym, ◌∙◌, arith}
use Rattle.flash_pages.proofs.Runs.{reads_reads}
use Rattle.kept_relocs.proofs.Coming.{all_gone, at_end, step_none}
use Rattle.kept_relocs.proofs.order.Cursor.next.Goals as goal

pub returns-in_default-clause-reads : goal.returns-in_default-clause-reads
returns-in_default-clause-reads g c = reads_reads _ _ _ c.loop-self.invariant.reads c.step.ensures.reads

pub returns-then-is_some-clause-reads : goal.returns-then-is_some-clause-reads
returns-then-is_some-clause-reads g c = reads_reads _ _ _ c.loop-self.invariant.reads c.step.ensures.reads

pub loop-self-preserved : goal.loop-self-preserved
loop-self-preserved g c = record {
  within = c.in-Ok.ensures.within;
  reads = reads_reads _ _ _ c.loop-self.invariant.reads c.step.ensures.reads;
  fault = c.in-Ok.ensures.faults ∙ c.loop-self.invariant.fault;
  keeps = λ s told keeps. c.step.ensures.keeps s (c.loop-self.invariant.reads.state ∙ told) (c.loop-self.invariant.keeps s told keeps);
  rest = λ s told keeps components holds.
      let now = c.loop-self.invariant.reads.state ∙ told in
      let step = c.in-Ok.ensures.site s now (c.loop-self.invariant.keeps s told keeps) components holds in
      c.loop-self.invariant.rest s told keeps components holds ∙ step_none c.in-Ok.found _ _ (sym c.if-is_some.ensures) step;
}

pub returns-clause-site : goal.returns-clause-site
returns-clause-site g c = λ s told keeps components holds.
    let set = c.args.set.now in
    let me = c.loop-self.self in
    let ended = at_end me.in_init set.slots.manifest.count me.component (sym c.loop-self-test.ensures) in
    let gone = all_gone components me.in_init me.component me.index ended.0 (omega (arith, holds.count, ended.1)) in
    (c.loop-self.invariant.rest s told keeps components holds ∙ gone, gone)
