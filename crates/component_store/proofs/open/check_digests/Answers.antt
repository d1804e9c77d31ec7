use Rattle.std.proofs.Common.{◌≡◌, ℕ, Bool, cond, Some, None, length, ap, ◌∙◌, rules}
use Rattle.std.specs.Prelude.{not}
use Rattle.flash_pages.proofs.Runs.{reads_reads}
use Rattle.component_package.specs.packages.Manifest.{stored_of}
use Rattle.component_package.specs.mote.Store.{slots_of, missing_at, Missing}
use Rattle.component_package.proofs.First.{first_fault-at, first_fault-more}
use Rattle.component_store.proofs.OpenLemmas.{entry_of, is_entry, missing_is}
use Rattle.component_store.proofs.open.check_digests.Goals as goal

pub check-requires-clause-slot : goal.check-requires-clause-slot
check-requires-clause-slot g c =
    let m = c.args.m.now in
    let room : length m.manifest.entries ≡ 16 = search rules in
    let slot_room : length m.slots ≡ 16 = search rules in
    let k : ℕ = c.loop-k.k in
    let at = is_entry m k c.requires room slot_room c.loop-k-test.true in
    at.slot

pub check-requires-clause-least : goal.check-requires-clause-least
check-requires-clause-least g c =
    let m = c.args.m.now in
    let room : length m.manifest.entries ≡ 16 = search rules in
    let slot_room : length m.slots ≡ 16 = search rules in
    let k : ℕ = c.loop-k.k in
    let at = is_entry m k c.requires room slot_room c.loop-k-test.true in
    at.entry.least

pub check-requires-clause-most : goal.check-requires-clause-most
check-requires-clause-most g c =
    let m = c.args.m.now in
    let room : length m.manifest.entries ≡ 16 = search rules in
    let slot_room : length m.slots ≡ 16 = search rules in
    let k : ℕ = c.loop-k.k in
    let at = is_entry m k c.requires room slot_room c.loop-k-test.true in
    at.entry.most

pub returns-in_err-is_there-clause-reads : goal.returns-in_err-is_there-clause-reads
returns-in_err-is_there-clause-reads g c = reads_reads _ _ _ c.loop-k.invariant.reads c.check.ensures.reads

pub returns-then-not-is_there-clause-answer : goal.returns-then-not-is_there-clause-answer
returns-then-not-is_there-clause-answer g c = λ e s told.
    let m = c.args.m.now in
    let room : length m.manifest.entries ≡ 16 = search rules in
    let slot_room : length m.slots ≡ 16 = search rules in
    let k : ℕ = c.loop-k.k in
    let at = is_entry m k c.requires room slot_room c.loop-k-test.true in
    let missing = missing_is s (stored_of m) k (entry_of m k) c.in_ok-is_there.is_there at.here at.slot (c.in_ok-is_there.ensures.answer s (c.loop-k.invariant.reads.state ∙ told)) in
    let here = missing ∙ ap (λ (b : Bool). cond (not b) (Some (Missing k)) None) c.if-not-is_there.true in
    first_fault-at (missing_at (slots_of s.ext) (stored_of m)) m.manifest.count k (Missing k) c.loop-k-test.true (c.loop-k.invariant.none s told) here

pub returns-then-not-is_there-clause-reads : goal.returns-then-not-is_there-clause-reads
returns-then-not-is_there-clause-reads g c = reads_reads _ _ _ c.loop-k.invariant.reads c.check.ensures.reads

pub loop-k-preserved : goal.loop-k-preserved
loop-k-preserved g c = record {
  none = λ s told.
      let m = c.args.m.now in
      let room : length m.manifest.entries ≡ 16 = search rules in
      let slot_room : length m.slots ≡ 16 = search rules in
      let k : ℕ = c.loop-k.k in
      let at = is_entry m k c.requires room slot_room c.loop-k-test.true in
      let missing = missing_is s (stored_of m) k (entry_of m k) c.in_ok-is_there.is_there at.here at.slot (c.in_ok-is_there.ensures.answer s (c.loop-k.invariant.reads.state ∙ told)) in
      let here = missing ∙ ap (λ (b : Bool). cond (not b) (Some (Missing k)) None) c.if-not-is_there.false in
      first_fault-more (missing_at (slots_of s.ext) (stored_of m)) k (c.loop-k.invariant.none s told) here;
  reads = reads_reads _ _ _ c.loop-k.invariant.reads c.check.ensures.reads;
  fault = c.in_ok-is_there.ensures.faults ∙ c.loop-k.invariant.fault;
}
