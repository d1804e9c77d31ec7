use Rattle.std.proofs.Common.{◌≡◌, ℕ, ◌<◌, List, None, Ok, Err, ap, subst, ◌∙◌, arith}
use Rattle.std.specs.Option.{option_map}
use Rattle.std.proofs.lemmas.Result.{err_from_is_err_and}
use Rattle.flash_pages.proofs.Runs.{reads_reads}
use Rattle.component_package.specs.declared.fault.PackageFault.{PackageFault}
use Rattle.component_package.specs.declared.part.Header.{Header}
use Rattle.component_package.specs.packages.Reading.{header_of, raw_reloc, reloc_fault, field_span_of, first_fault}
use Rattle.component_package.specs.Laws.{spanned_field}
use Rattle.component_package.proofs.First.{first_fault-at, first_fault-more}
use Rattle.component_package.proofs.Steps.{reloc_fault_is, reloc_after}
use Rattle.component_store.specs.declared.set.StoreFault.TheVariants.{Package}
use Rattle.component_store.specs.Reader.{held_package}
use Rattle.component_store.proofs.package.check_relocs.Goals as goal

pub returns-in_err-raw-clause-reads : goal.returns-in_err-raw-clause-reads
returns-in_err-raw-clause-reads g c = reads_reads _ _ _ c.loop-i.invariant.reads c.reloc_raw.ensures.reads

pub returns-in_err-field-clause-reads : goal.returns-in_err-field-clause-reads
returns-in_err-field-clause-reads g c = reads_reads _ _ _ (reads_reads _ _ _ c.loop-i.invariant.reads c.reloc_raw.ensures.reads) c.field_raw.ensures.reads

pub returns-in_err-reloc-clause-answer : goal.returns-in_err-reloc-clause-answer
returns-in_err-reloc-clause-answer g c =
    let p = err_from_is_err_and c.from_residual-in_err-reloc.result c.from_residual-in_err-reloc.ensures.1 in
    let f : PackageFault = c.in_err-reloc.field-0.0 in
    rw (p.1, p.2) (λ e s told under.
    let h : Header = c.args.h.now in
    let i : ℕ = c.loop-i.i in
    let b : List ℕ = held_package s c.args.table.now.slot h in
    let told2 = c.loop-i.invariant.reads.state ∙ told in
    let raw = c.in_ok-raw.ensures.answer s told2 (c.loop-i.invariant.under s told under) ∙ ap (λ (k : ℕ). raw_reloc (held_package s k h) i) c.loop-i.invariant.slot in
    let field = c.in_ok-field.ensures.answer s (c.reloc_raw.ensures.reads.state ∙ told2) (c.loop-i.invariant.fields_under s told under) ∙ ap (λ (k : ℕ). spanned_field (held_package s k h) (field_span_of h c.in_ok-raw.raw)) c.loop-i.invariant.field_slot in
    let result = rw (c.as_ref.ensures.value) at c.in_err-reloc.ensures in
    let here = reloc_fault_is b h c.loop-i.before i c.in_ok-raw.raw c.in_ok-field.field (Err f) under.header (c.loop-i.invariant.before s told under) raw field result in
    let below : i < (header_of b).relocs = omega (arith, c.loop-i-test.true, ap (λ (k : Header). k.relocs) under.header) in
    ap (option_map Package) (first_fault-at (reloc_fault b) (header_of b).relocs i f below (c.loop-i.invariant.none s told under) here))

pub returns-in_err-reloc-clause-reads : goal.returns-in_err-reloc-clause-reads
returns-in_err-reloc-clause-reads g c = reads_reads _ _ _ (reads_reads _ _ _ c.loop-i.invariant.reads c.reloc_raw.ensures.reads) c.field_raw.ensures.reads

pub loop-i-preserved : goal.loop-i-preserved
loop-i-preserved g c = record {
  slot = c.reloc_raw.ensures.slot ∙ c.loop-i.invariant.slot;
  field_slot = c.field_raw.ensures.slot ∙ c.loop-i.invariant.field_slot;
  under = λ s told under. c.in_ok-raw.ensures.keeps s (c.loop-i.invariant.reads.state ∙ told) (c.loop-i.invariant.under s told under);
  fields_under = λ s told under. c.in_ok-field.ensures.keeps s (c.reloc_raw.ensures.reads.state ∙ c.loop-i.invariant.reads.state ∙ told) (c.loop-i.invariant.fields_under s told under);
  none = λ s told under.
      let h : Header = c.args.h.now in
      let i : ℕ = c.loop-i.i in
      let b : List ℕ = held_package s c.args.table.now.slot h in
      let told2 = c.loop-i.invariant.reads.state ∙ told in
      let raw = c.in_ok-raw.ensures.answer s told2 (c.loop-i.invariant.under s told under) ∙ ap (λ (k : ℕ). raw_reloc (held_package s k h) i) c.loop-i.invariant.slot in
      let field = c.in_ok-field.ensures.answer s (c.reloc_raw.ensures.reads.state ∙ told2) (c.loop-i.invariant.fields_under s told under) ∙ ap (λ (k : ℕ). spanned_field (held_package s k h) (field_span_of h c.in_ok-raw.raw)) c.loop-i.invariant.field_slot in
      let result = rw (c.as_ref.ensures.value) at c.in_ok-reloc.ensures in
      let here = reloc_fault_is b h c.loop-i.before i c.in_ok-raw.raw c.in_ok-field.field (Ok c.in_ok-reloc.reloc) under.header (c.loop-i.invariant.before s told under) raw field result in
      first_fault-more (reloc_fault b) i (c.loop-i.invariant.none s told under) here;
  before = λ s told under.
      let h : Header = c.args.h.now in
      let i : ℕ = c.loop-i.i in
      let b : List ℕ = held_package s c.args.table.now.slot h in
      let raw = c.in_ok-raw.ensures.answer s (c.loop-i.invariant.reads.state ∙ told) (c.loop-i.invariant.under s told under) ∙ ap (λ (k : ℕ). raw_reloc (held_package s k h) i) c.loop-i.invariant.slot in
      let result = rw (c.as_ref.ensures.value) at c.in_ok-reloc.ensures in
      reloc_after b h c.loop-i.before i c.in_ok-raw.raw c.in_ok-field.field c.in_ok-reloc.reloc raw result;
  reads = reads_reads _ _ _ (reads_reads _ _ _ c.loop-i.invariant.reads c.reloc_raw.ensures.reads) c.field_raw.ensures.reads;
  fault = c.in_ok-field.ensures.faults ∙ c.in_ok-raw.ensures.faults ∙ c.loop-i.invariant.fault;
}

pub returns-clause-answer : goal.returns-clause-answer
returns-clause-answer g c = λ e s told under.
    let h : Header = c.args.h.now in
    let b : List ℕ = held_package s c.args.table.now.slot h in
    let all : c.loop-i.i ≡ h.relocs = omega (arith, c.loop-i-test.false, c.loop-i.auto.i-end) in
    let same = all ∙ ap (λ (k : Header). k.relocs) under.header in
    ap (option_map Package) (subst (λ (n : ℕ). first_fault (reloc_fault b) n ≡ None) same (c.loop-i.invariant.none s told under))
