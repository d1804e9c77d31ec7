use Rattle.std.proofs.Common.{ℕ, Bool, cond, Some, None, ap, ◌∙◌}
use Rattle.std.specs.Prelude.{not}
use Rattle.flash_pages.proofs.Runs.{reads_reads}
use Rattle.component_package.specs.mote.Store.{Missing}
use Rattle.component_package.proofs.First.{first_fault-at, first_fault-more}
use Rattle.kept_definitions.specs.Kept.{inbox_of, missing_at}
use Rattle.kept_manifests.specs.Slots.{stored_of}
use Rattle.kept_store.proofs.OpenLemmas.{missing_here}
use Rattle.kept_store.proofs.open.check_digests.Goals as goal

pub returns-in_err-there-clause-reads : goal.returns-in_err-there-clause-reads
returns-in_err-there-clause-reads g c = reads_reads _ _ _ c.loop-k.invariant.reads c.is_there.ensures.reads

pub returns-then-not-there-clause-answer : goal.returns-then-not-there-clause-answer
returns-then-not-there-clause-answer g c = λ e s told.
    let m = c.args.m.now in
    let k : ℕ = c.loop-k.k in
    let here = missing_here (inbox_of s.ext) m k c.in_ok-there.there c.loop-k-test.true (c.in_ok-there.ensures.answer s (c.loop-k.invariant.reads.state ∙ told))
    ∙ ap (λ (b : Bool). cond (not b) (Some (Missing k)) None) c.if-not-there.true in
    first_fault-at (missing_at (inbox_of s.ext) (stored_of m)) m.manifest.count k (Missing k) c.loop-k-test.true (c.loop-k.invariant.none s told) here

pub returns-then-not-there-clause-reads : goal.returns-then-not-there-clause-reads
returns-then-not-there-clause-reads g c = reads_reads _ _ _ c.loop-k.invariant.reads c.is_there.ensures.reads

pub loop-k-preserved : goal.loop-k-preserved
loop-k-preserved g c = record {
  none = λ s told.
      let m = c.args.m.now in
      let k : ℕ = c.loop-k.k in
      let here = missing_here (inbox_of s.ext) m k c.in_ok-there.there c.loop-k-test.true (c.in_ok-there.ensures.answer s (c.loop-k.invariant.reads.state ∙ told))
      ∙ ap (λ (b : Bool). cond (not b) (Some (Missing k)) None) c.if-not-there.false in
      first_fault-more (missing_at (inbox_of s.ext) (stored_of m)) k (c.loop-k.invariant.none s told) here;
  reads = reads_reads _ _ _ c.loop-k.invariant.reads c.is_there.ensures.reads;
  fault = c.in_ok-there.ensures.faults ∙ c.loop-k.invariant.fault;
}
