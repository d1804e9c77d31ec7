use Rattle.std.proofs.Common.{◌≡◌, ℕ, ◌+◌, ◌/◌, ◌<◌, ◌^◌, refl, ◌∙◌, arith, rules}
use Rattle.std.specs.Prelude.{slice_get}
use Rattle.flash_pages.proofs.Runs.{reads_reads, reads_starts}
use Rattle.kept_symbols.specs.Lookup.{first_from, record_bytes}
use Rattle.kept_symbols.proofs.Found.{halve_before, halve_behind, first_few, address_there, address_nowhere}
use Rattle.kept_symbols.proofs.table.read_address.Goals as goal

pub loop-low-init : goal.loop-low-init
loop-low-init g c = record {
  order = omega arith;
  inside = omega arith;
  keeps = λ s told keeps. keeps;
  low = λ s told keeps rs tells. omega arith;
  high = λ s told keeps rs tells. let few = first_few rs c.args.symbol in omega (arith, few, tells.few);
  reads = reads_starts _;
  fault = search rules;
}

pub returns-in_err-number-clause-reads : goal.returns-in_err-number-clause-reads
returns-in_err-number-clause-reads g c = reads_reads _ _ _ c.loop-low.invariant.reads c.symbol_at.ensures.reads

pub loop-low-preserved-then-number-symbol : goal.loop-low-preserved-then-number-symbol
loop-low-preserved-then-number-symbol g c =
    let more = c.loop-low-test.true in
    let small : c.args.symbol < 2 ^ 16 = search rules in
    record {
      order = omega (arith, more);
      inside = c.loop-low.invariant.inside;
      keeps = λ s told keeps. c.in_ok-number.ensures.keeps s (c.loop-low.invariant.reads.state ∙ told) (c.loop-low.invariant.keeps s told keeps);
      low = λ s told keeps rs tells.
          let i : ℕ = (c.loop-low.low + c.loop-low.high) / 2 in
          let said = c.in_ok-number.ensures.symbol s (c.loop-low.invariant.reads.state ∙ told) (c.loop-low.invariant.keeps s told keeps) rs tells in
          halve_before rs c.args.symbol i (record_bytes (slice_get rs i)) c.in_ok-number.number small tells.rise refl said c.if-number-symbol.true;
      high = c.loop-low.invariant.high;
      reads = reads_reads _ _ _ c.loop-low.invariant.reads c.symbol_at.ensures.reads;
      fault = c.in_ok-number.ensures.faults ∙ c.loop-low.invariant.fault;
    }

pub loop-low-preserved : goal.loop-low-preserved
loop-low-preserved g c =
    let more = c.loop-low-test.true in
    let inside = c.loop-low.invariant.inside in
    record {
      order = omega (arith, more);
      inside = omega (arith, more, inside);
      keeps = λ s told keeps. c.in_ok-number.ensures.keeps s (c.loop-low.invariant.reads.state ∙ told) (c.loop-low.invariant.keeps s told keeps);
      low = c.loop-low.invariant.low;
      high = λ s told keeps rs tells.
          let i : ℕ = (c.loop-low.low + c.loop-low.high) / 2 in
          let said = c.in_ok-number.ensures.symbol s (c.loop-low.invariant.reads.state ∙ told) (c.loop-low.invariant.keeps s told keeps) rs tells in
          halve_behind rs c.args.symbol i (record_bytes (slice_get rs i)) c.in_ok-number.number refl said c.if-number-symbol.false;
      reads = reads_reads _ _ _ c.loop-low.invariant.reads c.symbol_at.ensures.reads;
      fault = c.in_ok-number.ensures.faults ∙ c.loop-low.invariant.fault;
    }

pub returns-then-low-eq-RECORDS-clause-answer : goal.returns-then-low-eq-RECORDS-clause-answer
returns-then-low-eq-RECORDS-clause-answer g c = λ s told keeps rs tells.
    let low = c.loop-low.invariant.low s told keeps rs tells in
    let full : c.loop-low.low ≡ 1024 = search rules in
    let few = first_few rs c.args.symbol in
    let count = tells.few in
    address_nowhere rs c.args.symbol 1024 tells.rise count (omega (arith, low, full, few, count))

pub returns-in_err-record-clause-reads : goal.returns-in_err-record-clause-reads
returns-in_err-record-clause-reads g c = reads_reads _ _ _ c.loop-low.invariant.reads c.record_at.ensures.reads

pub returns-clause-answer : goal.returns-clause-answer
returns-clause-answer g c = λ s told keeps rs tells.
    let low = c.loop-low.invariant.low s told keeps rs tells in
    let high = c.loop-low.invariant.high s told keeps rs tells in
    let end = c.loop-low-test.false in
    let first : first_from c.args.symbol rs ≡ c.loop-low.low = omega (arith, low, high, end, c.loop-low.invariant.order) in
    let raw = c.in_ok-record.ensures.bytes s (c.loop-low.invariant.reads.state ∙ told) (c.loop-low.invariant.keeps s told keeps) rs tells in
    c.address_said.ensures ∙ address_there rs c.args.symbol c.loop-low.low c.in_ok-record.record tells.rise tells.symbols first raw

pub returns-clause-reads : goal.returns-clause-reads
returns-clause-reads g c = reads_reads _ _ _ c.loop-low.invariant.reads c.record_at.ensures.reads

pub returns-clause-keeps : goal.returns-clause-keeps
returns-clause-keeps g c = λ s told keeps. c.in_ok-record.ensures.keeps s (c.loop-low.invariant.reads.state ∙ told) (c.loop-low.invariant.keeps s told keeps)
