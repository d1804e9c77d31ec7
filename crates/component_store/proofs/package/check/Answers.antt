use Rattle.std.proofs.Common.{◌≡◌, ℕ, ◌+◌, ◌*◌, ◌/◌, ◌%◌, ◌++◌, List, length, take, drop, sym, ap, ap₂, subst, ◌∙◌, arith, rules}
use Rattle.flash_pages.proofs.Runs.{reads_reads}
use Rattle.std.proofs.lemmas.List.{length-take-le}
use Rattle.sha2.specs.Sha256.{sha256}
use Rattle.sha2.specs.Hashers.{Holds256}
use Rattle.component_package.specs.mote.Store.{slot_at}
use Rattle.component_package.proofs.StoredLemmas.{take_further}
use Rattle.component_store.proofs.package.check.Goals as goal

pub returns-in_err-read-clause-reads : goal.returns-in_err-read-clause-reads
returns-in_err-read-clause-reads g c = reads_reads _ _ _ c.loop-i.invariant.reads c.read.ensures.reads

pub loop-i-preserved : goal.loop-i-preserved
loop-i-preserved g c = record {
  room = search rules;
  slot = c.read.ensures.slot ∙ c.loop-i.invariant.slot;
  keeps = λ s told. c.in_ok-read.ensures.keeps s (c.loop-i.invariant.reads.state ∙ told) (c.loop-i.invariant.keeps s told);
  holds = λ s told.
      let page = c.in_ok-read.ensures.answer s (c.loop-i.invariant.reads.state ∙ told) (c.loop-i.invariant.keeps s told) in
      let step = c.update.ensures (take (256 * c.loop-i.i) (slot_at s.ext c.args.slot)) (c.loop-i.invariant.holds s told) in
      let b : List ℕ = slot_at s.ext c.args.slot in
      let i : ℕ = c.loop-i.i in
      let here : c.as_slice.result.now ≡ take 256 (drop (256 * i) b) = c.as_slice.ensures ∙ page ∙ ap₂ (λ (n k : ℕ). take n (drop (256 * i) (slot_at s.ext k))) c.loop-i.invariant.room c.loop-i.invariant.slot in
      let next : 256 * i + 256 ≡ 256 * (i + 1) = omega arith in
      let whole : take (256 * i) b ++ c.as_slice.result.now ≡ take (256 * (i + 1)) b = ap (λ (l : List ℕ). take (256 * i) b ++ l) here ∙ sym (take_further b (256 * i) 256) ∙ ap (λ (k : ℕ). take k b) next in
      subst (λ (l : List ℕ). Holds256 c.update.new.self l) whole step;
  reads = reads_reads _ _ _ c.loop-i.invariant.reads c.read.ensures.reads;
  fault = c.in_ok-read.ensures.faults ∙ c.loop-i.invariant.fault;
}

pub returns-in_err-read-2-clause-reads : goal.returns-in_err-read-2-clause-reads
returns-in_err-read-2-clause-reads g c = reads_reads _ _ _ c.loop-i.invariant.reads c.read-2.ensures.reads

pub returns-clause-answer : goal.returns-clause-answer
returns-clause-answer g c = λ s told.
    let page = c.in_ok-read-2.ensures.answer s (c.loop-i.invariant.reads.state ∙ told) (c.loop-i.invariant.keeps s told) in
    let step = c.update-2.ensures (take (256 * c.loop-i.i) (slot_at s.ext c.args.slot)) (c.loop-i.invariant.holds s told) in
    let b : List ℕ = slot_at s.ext c.args.slot in
    let i : ℕ = c.loop-i.i in
    let n : ℕ = c.args.size in
    let room : length c.loop-i.page ≡ 256 = c.loop-i.invariant.room in
    let end : n / 256 ≡ i = omega (arith, c.loop-i-test.false, c.loop-i.auto.i-end) in
    let rest : length (take (n % 256) c.loop-i.page) ≡ n % 256 = length-take-le (n % 256) c.loop-i.page (omega arith) in
    let here : c.read-2.new.into ≡ take (n % 256) (drop (256 * i) b) = page ∙ ap₂ (λ (m k : ℕ). take m (drop (256 * (n / 256)) (slot_at s.ext k))) rest c.loop-i.invariant.slot ∙ ap (λ (k : ℕ). take (n % 256) (drop (256 * k) b)) end in
    let all : 256 * i + n % 256 ≡ n = omega arith in
    let whole : take (256 * i) b ++ c.read-2.new.into ≡ take n b = ap (λ (l : List ℕ). take (256 * i) b ++ l) here ∙ sym (take_further b (256 * i) (n % 256)) ∙ ap (λ (k : ℕ). take k b) all in
    let digest : c.finalize.result ≡ sha256 (take n b) = c.finalize.ensures (take n b) (subst (λ (l : List ℕ). Holds256 c.update-2.new.self l) whole step) in
    (λ yes_it. sym digest ∙ c.is_same.ensures.0 yes_it, λ same. c.is_same.ensures.1 (digest ∙ same))

pub returns-clause-reads : goal.returns-clause-reads
returns-clause-reads g c = reads_reads _ _ _ c.loop-i.invariant.reads c.read-2.ensures.reads
