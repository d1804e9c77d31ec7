use Rattle.std.proofs.Common.{◌≡◌, ℕ, inl, inr, List, Option, Ok, subst, ◌∙◌, arith}
use Rattle.flash_pages.proofs.Runs.{reads_reads}
use Rattle.kept_symbols.specs.Records.{NextIs, IsFilled}
use Rattle.kept_symbols.proofs.Filled.{put_more, put_all, fill_ends}
use Rattle.kept_symbols.proofs.merging.fill_page.Goals as goal

pub returns-in-Ok-None-clause-fill : goal.returns-in-Ok-None-clause-fill
returns-in-Ok-None-clause-fill g c = λ s told components holds own low at.
    let old = c.loop-i.invariant.filled s told components holds own low at in
    let next = subst (λ (o : Option (List ℕ)). NextIs components old.high c.next_record.new.walk (Ok o)) c.in-Ok-None.field-0-is
    (c.in-Ok-None.ensures.next s (c.loop-i.invariant.reads.state ∙ told) components holds own old.high old.at) in
    put_all _ low c.loop-i.i c.loop-i.page c.loop-i.walk c.next_record.new.walk old next.0 (inr next.1)

pub returns-in-Ok-None-clause-reads : goal.returns-in-Ok-None-clause-reads
returns-in-Ok-None-clause-reads g c = reads_reads _ _ _ c.loop-i.invariant.reads c.next_record.ensures.reads

pub returns-in-Err-clause-fill : goal.returns-in-Err-clause-fill
returns-in-Err-clause-fill g c = λ s told components holds own low at.
    let old = c.loop-i.invariant.filled s told components holds own low at in
    fill_ends components low old.high c.loop-i.page c.next_record.new.walk c.in-Err.fault old.single
    (c.in-Err.ensures.next s (c.loop-i.invariant.reads.state ∙ told) components holds own old.high old.at)

pub returns-in-Err-clause-reads : goal.returns-in-Err-clause-reads
returns-in-Err-clause-reads g c = reads_reads _ _ _ c.loop-i.invariant.reads c.next_record.ensures.reads

pub loop-i-preserved : goal.loop-i-preserved
loop-i-preserved g c = record {
  of = c.next_record.ensures.of;
  filled = λ s told components holds own low at.
      let old = c.loop-i.invariant.filled s told components holds own low at in
      let next = subst (λ (o : Option (List ℕ)). NextIs components old.high c.next_record.new.walk (Ok o)) c.in-Ok-Some.field-0-is
      (c.in-Ok-Some.ensures.next s (c.loop-i.invariant.reads.state ∙ told) components holds own old.high old.at) in
      put_more _ low c.loop-i.i c.loop-i.page c.put.new.page c.in-Ok-Some.record c.loop-i.walk c.next_record.new.walk old next c.put.ensures;
  reads = reads_reads _ _ _ c.loop-i.invariant.reads c.next_record.ensures.reads;
  fault = c.in-Ok-Some.ensures.faults ∙ c.loop-i.invariant.fault;
}

pub returns-clause-fill : goal.returns-clause-fill
returns-clause-fill g c = λ s told components holds own low at.
    let old = c.loop-i.invariant.filled s told components holds own low at in
    let last : c.loop-i.i ≡ 32 = omega (arith, c.loop-i-test.false, c.loop-i.auto.i-end) in
    subst (λ (n : ℕ). IsFilled components low n c.loop-i.page c.loop-i.walk) last (put_all _ low c.loop-i.i c.loop-i.page c.loop-i.walk c.loop-i.walk old old.at (inl last))
