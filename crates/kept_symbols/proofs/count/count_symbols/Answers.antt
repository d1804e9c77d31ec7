use Rattle.std.proofs.Common.{◌≡◌, subst, sym, ◌∙◌, arith}
use Rattle.flash_pages.proofs.Runs.{reads_reads}
use Rattle.kept_symbols.specs.Answers.{Counts}
use Rattle.kept_symbols.proofs.HeldSet.{held_set}
use Rattle.kept_symbols.proofs.Walked.{HasCounted, counted_none, counted_more, counted_all, counted_high}
use Rattle.kept_symbols.proofs.count.count_symbols.Goals as goal

pub loop-count-init : goal.loop-count-init
loop-count-init g c = record {
  of = c.in-Ok.ensures.of;
  counted = λ s told components holds.
      let own = held_set s c.args.set.now components c.requires.set c.rooms.ensures holds in
      counted_none _ c.in-Ok.walk (record { count = c.in-Ok.ensures.of.count ∙ sym own.count; cursors = c.in-Ok.ensures.stand s told components holds });
  reads = c.start.ensures.reads;
  fault = c.in-Ok.ensures.faults;
}

pub returns-in_default-next-clause-answer : goal.returns-in_default-next-clause-answer
returns-in_default-next-clause-answer g c = λ s told components holds.
    let own = held_set s c.args.set.now components c.requires.set c.rooms.ensures holds in
    subst (Counts components) (sym c.limited.ensures)
    (counted_all _ c.loop-count.walk c.loop-count.count own.is (c.loop-count.invariant.counted s told components holds) (λ low at. c.in_default-next.ensures.first _ low own.is at))

pub returns-in_default-pass-clause-reads : goal.returns-in_default-pass-clause-reads
returns-in_default-pass-clause-reads g c = reads_reads _ _ _ c.loop-count.invariant.reads c.pass.ensures.reads

pub loop-count-preserved : goal.loop-count-preserved
loop-count-preserved g c = record {
  of = c.pass.ensures.of;
  counted = λ s told components holds.
      let own = held_set s c.args.set.now components c.requires.set c.rooms.ensures holds in
      counted_more _ c.loop-count.walk c.pass.new.self c.loop-count.count (c.in-Some.field-0-0, c.in-Some.export) own.is (c.loop-count.invariant.counted s told components holds)
      (λ low at. c.in-Some.ensures.first _ low own.is at)
      (λ at. c.in-Ok-pass.ensures.passes s (c.loop-count.invariant.reads.state ∙ told) components holds own.is at);
  reads = reads_reads _ _ _ c.loop-count.invariant.reads c.pass.ensures.reads;
  fault = c.in-Ok-pass.ensures.faults ∙ c.loop-count.invariant.fault;
}

pub returns-clause-answer : goal.returns-clause-answer
returns-clause-answer g c = λ s told components holds.
    let own = held_set s c.args.set.now components c.requires.set c.rooms.ensures holds in
    let last : c.loop-count.count ≡ 65536 = omega (arith, c.loop-count-test.false, c.loop-count.auto.count-end) in
    let walked = subst (HasCounted components c.loop-count.walk) last (c.loop-count.invariant.counted s told components holds) in
    subst (Counts components) (sym c.limited-2.ensures)
    (counted_high _ c.loop-count.walk 65536 own.is (omega arith) walked)
