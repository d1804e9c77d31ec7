use Rattle.std.proofs.Common.{◌≡◌, ℕ, ◌<◌, ◌≤◌, [], length, get_or, ◌∙◌, arith}
use Rattle.std.proofs.lemmas.List.{length-set}
use Rattle.flash_pages.proofs.Runs.{reads_reads}
use Rattle.component_package.specs.declared.part.Header.{Header}
use Rattle.component_package.specs.packages.Reading.{header_of}
use Rattle.kept_definitions.specs.Kept.{tables_of}
use Rattle.kept_store.specs.Sets.{no_header}
use Rattle.kept_store.proofs.RestLemmas.{slot_low, set_next}
use Rattle.kept_store.proofs.current.table_headers.Goals as goal

pub table_header-requires : goal.table_header-requires
table_header-requires g c = slot_low c.args.m.now c.loop-k.k c.requires c.loop-k-test.true

pub returns-in_err-header-clause-reads : goal.returns-in_err-header-clause-reads
returns-in_err-header-clause-reads g c = reads_reads _ _ _ c.loop-k.invariant.reads c.table_header.ensures.reads

pub loop-k-preserved : goal.loop-k-preserved
loop-k-preserved g c =
    let m = c.args.m.now in
    let k : ℕ = c.loop-k.k in
    let lt : k < m.manifest.count = c.loop-k-test.true in
    let few : m.manifest.count ≤ 16 = c.requires.count in
    let room : length c.loop-k.headers ≡ 16 = c.loop-k.invariant.room in
    record {
      room = length-set c.loop-k.headers k c.in_ok-header.header ∙ room;
      headers_are = λ s told.
          set_next (λ (j : ℕ) (h : Header). h ≡ header_of (get_or (tables_of s.ext) (get_or m.slots j 0) [])) c.loop-k.headers k c.in_ok-header.header no_header (omega arith)
          (c.loop-k.invariant.headers_are s told) (c.in_ok-header.ensures.answer s (c.loop-k.invariant.reads.state ∙ told));
      reads = reads_reads _ _ _ c.loop-k.invariant.reads c.table_header.ensures.reads;
      fault = c.in_ok-header.ensures.faults ∙ c.loop-k.invariant.fault;
    }
