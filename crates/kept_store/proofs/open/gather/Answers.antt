use Rattle.std.proofs.Common.{◌≡◌, ℕ, ◌<◌, ◌≤◌, length, get_or, refl, subst, ◌∙◌, arith}
use Rattle.std.proofs.lemmas.List.{length-set}
use Rattle.std.proofs.lemmas.Option.{get_or_from_slice_get}
use Rattle.flash_pages.proofs.Runs.{reads_reads}
use Rattle.component_package.specs.declared.manifest.Entry.{Entry}
use Rattle.component_package.specs.declared.part.Header.{Header}
use Rattle.component_package.proofs.First.{first_fault-more}
use Rattle.component_store.specs.Sets.{IsHeaderOf}
use Rattle.kept_definitions.specs.Kept.{inbox_of, bad_package_at}
use Rattle.kept_manifests.specs.Slots.{no_entry, place_of, stored_of}
use Rattle.kept_store.specs.declared.set.StoredSet.{StoredSet}
use Rattle.kept_store.specs.declared.open.Part.{Part}
use Rattle.kept_store.specs.Sets.{no_header}
use Rattle.kept_store.specs.Open.{FitsPlace, IsPart}
use Rattle.kept_store.proofs.OpenLemmas.{said_first, parts_next}
use Rattle.kept_store.proofs.open.gather.Goals as goal

pub returns-in-Err-clause-answer : goal.returns-in-Err-clause-answer
returns-in-Err-clause-answer g c = λ e none over s told.
    let m = c.args.m.now in
    let k : ℕ = c.loop-k.k in
    said_first Part StoredSet c.in-Err.fault (bad_package_at (inbox_of s.ext) (stored_of m)) m.manifest.count k c.loop-k-test.true (c.loop-k.invariant.none none over s told) e
    (λ fine. c.in-Err.ensures.answer fine none over s (c.loop-k.invariant.reads.state ∙ told))

pub returns-in-Err-clause-reads : goal.returns-in-Err-clause-reads
returns-in-Err-clause-reads g c = reads_reads _ _ _ c.loop-k.invariant.reads c.entry_part.ensures.reads

pub loop-k-preserved : goal.loop-k-preserved
loop-k-preserved g c =
    let m = c.args.m.now in
    let k : ℕ = c.loop-k.k in
    let x : Part = c.in-Ok.part in
    let lt : k < m.manifest.count = c.loop-k-test.true in
    let few : m.manifest.count ≤ 16 = c.requires.manifest.count in
    let room : length c.loop-k.headers ≡ 16 = c.loop-k.invariant.room in
    let code_room : length c.loop-k.code_at ≡ 16 = c.loop-k.invariant.code_room in
    let init_room : length c.loop-k.init_at ≡ 16 = c.loop-k.invariant.init_room in
    record {
      room = length-set c.loop-k.headers k x.header ∙ room;
      code_room = length-set c.loop-k.code_at k x.code_at ∙ code_room;
      init_room = length-set c.loop-k.init_at k x.init_at ∙ init_room;
      none = λ none over s told.
          first_fault-more (bad_package_at (inbox_of s.ext) (stored_of m)) k (c.loop-k.invariant.none none over s told) (c.in-Ok.ensures.answer refl none over s (c.loop-k.invariant.reads.state ∙ told));
      fits = parts_next (λ (j : ℕ) (y : Part). FitsPlace (place_of m j) y) c.loop-k.headers c.loop-k.code_at c.loop-k.init_at k x (omega arith) (omega arith) (omega arith) c.loop-k.invariant.fits c.in-Ok.ensures.fits;
      parts = λ s told. parts_next (λ (j : ℕ) (y : Part). IsPart (inbox_of s.ext) m c.args.current.now j y) c.loop-k.headers c.loop-k.code_at c.loop-k.init_at k x
          (omega arith) (omega arith) (omega arith) (c.loop-k.invariant.parts s told) (c.in-Ok.ensures.part s (c.loop-k.invariant.reads.state ∙ told));
      reads = reads_reads _ _ _ c.loop-k.invariant.reads c.entry_part.ensures.reads;
      fault = c.in-Ok.ensures.faults ∙ c.loop-k.invariant.fault;
    }

pub returns-clause-set : goal.returns-clause-set
returns-clause-set g c =
    let m = c.args.m.now in
    let end : c.loop-k.k ≡ m.manifest.count = omega (arith, c.loop-k-test.false, c.loop-k.auto.k-end) in
    record {
      manifest = c.requires.manifest;
      headers = λ k h e lt at_h at_e.
          let fit = c.loop-k.invariant.fits k (omega (arith, lt, end)) in
          let h_is : get_or c.loop-k.headers k no_header ≡ h = get_or_from_slice_get c.loop-k.headers k h no_header at_h in
          let e_is : get_or m.manifest.entries k no_entry ≡ e = get_or_from_slice_get m.manifest.entries k e no_entry at_e in
          subst (λ (y : Header). IsHeaderOf y e) h_is (subst (λ (y : Entry). IsHeaderOf (get_or c.loop-k.headers k no_header) y) e_is fit.header_fits);
      parts = λ k lt rests in_init. (c.loop-k.invariant.fits k (omega (arith, lt, end))).within rests in_init;
    }
