use Rattle.std.proofs.Common.{◌≡◌, ℕ, ◌+◌, ◌-◌, ◌%◌, ◌≤◌, List, length, take, drop, sym, ap, ◌∙◌, arith, rules}
use Rattle.std.specs.List.{concat}
use Rattle.std.proofs.lemmas.List.{take_all}
use Rattle.flash_pages.proofs.Runs.{reads_reads}
use Rattle.kept_store.proofs.PartLemmas.{put_more, prog_part}
use Rattle.kept_store.proofs.parts.flash_bytes.Goals as goal

pub returns-in_err-page_bytes-clause-reads : goal.returns-in_err-page_bytes-clause-reads
returns-in_err-page_bytes-clause-reads g c = reads_reads _ _ _ c.loop-at.invariant.reads c.page_bytes.ensures.reads

pub loop-at-preserved : goal.loop-at-preserved
loop-at-preserved g c = record {
  within = search rules;
  room = search rules;
  bytes = λ s told.
      let sizes = (g.B.Board.view c.args.board.now).sizes s told in
      let at : ℕ = c.loop-at.at in
      let e : ℕ = c.min-end.result in
      let into : List ℕ = c.loop-at.into in
      let ahead : at ≤ e = search rules in
      let short : e ≤ length into = search rules in
      let wide : length c.page_bytes.new.into ≡ e - at = search rules in
      let one : (c.args.from + at) % 256 + (e - at) ≤ 256 = search rules in
      let read = c.in_ok-page_bytes.ensures.ok s (c.loop-at.invariant.reads.state ∙ told) in
      put_more (concat s.prog) c.args.from at e into c.page_bytes.new.into ahead short wide (c.loop-at.invariant.bytes s told)
      (read ∙ prog_part s sizes (c.args.from + at) (length (take (e - at) (drop at into))) (omega arith) (omega arith));
  reads = reads_reads _ _ _ c.loop-at.invariant.reads c.page_bytes.ensures.reads;
  fault = c.in_ok-page_bytes.ensures.faults ∙ c.loop-at.invariant.fault;
}

pub returns-clause-ok : goal.returns-clause-ok
returns-clause-ok g c = λ s told.
    let n : ℕ = length c.args.into.now in
    let room : length c.loop-at.into ≡ n = c.loop-at.invariant.room in
    let within : c.loop-at.at ≤ length c.loop-at.into = c.loop-at.invariant.within in
    let end : c.loop-at.at ≡ n = omega (arith, c.loop-at-test.false) in
    sym (take_all c.loop-at.at c.loop-at.into (omega arith)) ∙ c.loop-at.invariant.bytes s told ∙ ap (λ (m : ℕ). take m (drop c.args.from (concat s.prog))) end
