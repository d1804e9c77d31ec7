use Rattle.std.proofs.Common.{sym, ◌∙◌, arith}
use Rattle.flash_pages.proofs.Runs.{reads_reads}
use Rattle.symbol_merge.specs.Stored.{set_in}
use Rattle.reloc_table.proofs.Held.{set_length}
use Rattle.reloc_table.proofs.Coming.{all_gone, at_end, step_none}
use Rattle.reloc_table.proofs.order.Cursor.next.Goals as goal

pub returns-in_default-clause-reads : goal.returns-in_default-clause-reads
returns-in_default-clause-reads g c = reads_reads _ _ _ c.loop-self.invariant.reads c.step.ensures.reads

pub returns-then-is_some-clause-reads : goal.returns-then-is_some-clause-reads
returns-then-is_some-clause-reads g c = reads_reads _ _ _ c.loop-self.invariant.reads c.step.ensures.reads

pub loop-self-preserved : goal.loop-self-preserved
loop-self-preserved g c = record {
  within = c.in-Ok.ensures.within;
  reads = reads_reads _ _ _ c.loop-self.invariant.reads c.step.ensures.reads;
  fault = c.in-Ok.ensures.faults ∙ c.loop-self.invariant.fault;
  keeps = λ s told keeps holds. c.in-Ok.ensures.keeps s (c.loop-self.invariant.reads.state ∙ told) (c.loop-self.invariant.keeps s told keeps holds) holds;
  rest = λ s told keeps holds. c.loop-self.invariant.rest s told keeps holds ∙ step_none c.in-Ok.found _ _ (sym c.if-is_some.ensures) (c.in-Ok.ensures.site s (c.loop-self.invariant.reads.state ∙ told) (c.loop-self.invariant.keeps s told keeps holds) holds);
}

pub returns-clause-site : goal.returns-clause-site
returns-clause-site g c = λ s told keeps holds.
    let set = c.args.set.now in
    let me = c.loop-self.self in
    let ended = at_end me.in_init set.slots.manifest.count me.component (sym c.loop-self-test.ensures) in
    let gone = all_gone (set_in s set) me.in_init me.component me.index ended.0 (omega (arith, set_length s set c.requires.set c.rooms.ensures, ended.1)) in
    (c.loop-self.invariant.rest s told keeps holds ∙ gone, gone)
