use Rattle.std.proofs.Common.{◌≡◌, ℕ, ◌-◌, ◌≤◌, length, take, drop, sym, ap, ◌∙◌, arith, rules}
use Rattle.std.proofs.lemmas.List.{take_all}
use Rattle.flash_pages.proofs.Runs.{reads_reads}
use Rattle.external_flash.specs.Areas.{bytes_from}
use Rattle.kept_store.proofs.PartLemmas.{put_more}
use Rattle.kept_store.proofs.parts.slot_bytes.Goals as goal

pub returns-in_err-read-clause-reads : goal.returns-in_err-read-clause-reads
returns-in_err-read-clause-reads g c = reads_reads _ _ _ c.loop-at.invariant.reads c.read.ensures.reads

pub loop-at-preserved : goal.loop-at-preserved
loop-at-preserved g c = record {
  within = search rules;
  room = search rules;
  keeps = λ s told. c.in_ok-read.ensures.keeps s (c.loop-at.invariant.reads.state ∙ told) (c.loop-at.invariant.keeps s told);
  bytes = λ s told.
      let ahead : c.loop-at.at ≤ c.min-end.result = search rules in
      let short : c.min-end.result ≤ length c.loop-at.into = search rules in
      let wide : length c.read.new.into ≡ c.min-end.result - c.loop-at.at = search rules in
      put_more (bytes_from c.args.first s) c.args.from c.loop-at.at c.min-end.result c.loop-at.into c.read.new.into ahead short wide (c.loop-at.invariant.bytes s told)
      (c.in_ok-read.ensures.ok s (c.loop-at.invariant.reads.state ∙ told) (c.loop-at.invariant.keeps s told));
  reads = reads_reads _ _ _ c.loop-at.invariant.reads c.read.ensures.reads;
  fault = c.in_ok-read.ensures.faults ∙ c.loop-at.invariant.fault;
}

pub returns-clause-ok : goal.returns-clause-ok
returns-clause-ok g c = λ s told.
    let n : ℕ = length c.args.into.now in
    let room : length c.loop-at.into ≡ n = c.loop-at.invariant.room in
    let within : c.loop-at.at ≤ length c.loop-at.into = c.loop-at.invariant.within in
    let end : c.loop-at.at ≡ n = omega (arith, c.loop-at-test.false) in
    sym (take_all c.loop-at.at c.loop-at.into (omega arith)) ∙ c.loop-at.invariant.bytes s told ∙ ap (λ (m : ℕ). take m (drop c.args.from (bytes_from c.args.first s))) end
