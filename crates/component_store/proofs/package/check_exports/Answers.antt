use Rattle.std.proofs.Common.{◌≡◌, ℕ, ◌<◌, List, None, Ok, Err, ap, subst, ◌∙◌, arith}
use Rattle.std.specs.Option.{option_map}
use Rattle.std.proofs.lemmas.Result.{err_from_is_err_and}
use Rattle.flash_pages.proofs.Runs.{reads_reads}
use Rattle.component_package.specs.declared.fault.PackageFault.{PackageFault}
use Rattle.component_package.specs.declared.part.Header.{Header}
use Rattle.component_package.specs.packages.Reading.{header_of, raw_export, export_fault, first_fault}
use Rattle.component_package.proofs.First.{first_fault-at, first_fault-more}
use Rattle.component_package.proofs.Steps.{export_fault_is, symbol_after}
use Rattle.component_store.specs.declared.set.StoreFault.TheVariants.{Package}
use Rattle.component_store.specs.Reader.{held_package}
use Rattle.component_store.proofs.package.check_exports.Goals as goal

pub returns-in_err-raw-clause-reads : goal.returns-in_err-raw-clause-reads
returns-in_err-raw-clause-reads g c = reads_reads _ _ _ c.loop-i.invariant.reads c.export_raw.ensures.reads

pub returns-in_err-export-clause-answer : goal.returns-in_err-export-clause-answer
returns-in_err-export-clause-answer g c =
    let p = err_from_is_err_and c.from_residual-in_err-export.result c.from_residual-in_err-export.ensures.1 in
    let f : PackageFault = c.in_err-export.field-0.0 in
    rw (p.1, p.2) (λ e s told under.
    let h : Header = c.args.h.now in
    let i : ℕ = c.loop-i.i in
    let b : List ℕ = held_package s c.args.table.now.slot h in
    let raw = c.in_ok-raw.ensures.answer s (c.loop-i.invariant.reads.state ∙ told) (c.loop-i.invariant.under s told under) ∙ ap (λ (k : ℕ). raw_export (held_package s k h) i) c.loop-i.invariant.slot in
    let here = export_fault_is b h c.loop-i.before i c.in_ok-raw.raw (Err f) under.header (c.loop-i.invariant.before s told under) raw c.in_err-export.ensures in
    let below : i < (header_of b).exports = omega (arith, c.loop-i-test.true, ap (λ (k : Header). k.exports) under.header) in
    ap (option_map Package) (first_fault-at (export_fault b) (header_of b).exports i f below (c.loop-i.invariant.none s told under) here))

pub returns-in_err-export-clause-reads : goal.returns-in_err-export-clause-reads
returns-in_err-export-clause-reads g c = reads_reads _ _ _ c.loop-i.invariant.reads c.export_raw.ensures.reads

pub loop-i-preserved : goal.loop-i-preserved
loop-i-preserved g c = record {
  slot = c.export_raw.ensures.slot ∙ c.loop-i.invariant.slot;
  under = λ s told under. c.in_ok-raw.ensures.keeps s (c.loop-i.invariant.reads.state ∙ told) (c.loop-i.invariant.under s told under);
  none = λ s told under.
      let h : Header = c.args.h.now in
      let i : ℕ = c.loop-i.i in
      let b : List ℕ = held_package s c.args.table.now.slot h in
      let raw = c.in_ok-raw.ensures.answer s (c.loop-i.invariant.reads.state ∙ told) (c.loop-i.invariant.under s told under) ∙ ap (λ (k : ℕ). raw_export (held_package s k h) i) c.loop-i.invariant.slot in
      let here = export_fault_is b h c.loop-i.before i c.in_ok-raw.raw (Ok c.in_ok-export.export) under.header (c.loop-i.invariant.before s told under) raw c.in_ok-export.ensures in
      first_fault-more (export_fault b) i (c.loop-i.invariant.none s told under) here;
  before = λ s told under.
      let h : Header = c.args.h.now in
      let i : ℕ = c.loop-i.i in
      let b : List ℕ = held_package s c.args.table.now.slot h in
      let raw = c.in_ok-raw.ensures.answer s (c.loop-i.invariant.reads.state ∙ told) (c.loop-i.invariant.under s told under) ∙ ap (λ (k : ℕ). raw_export (held_package s k h) i) c.loop-i.invariant.slot in
      symbol_after b h c.loop-i.before i c.in_ok-raw.raw c.in_ok-export.export raw c.in_ok-export.ensures;
  reads = reads_reads _ _ _ c.loop-i.invariant.reads c.export_raw.ensures.reads;
  fault = c.in_ok-raw.ensures.faults ∙ c.loop-i.invariant.fault;
}

pub returns-clause-answer : goal.returns-clause-answer
returns-clause-answer g c = λ e s told under.
    let h : Header = c.args.h.now in
    let b : List ℕ = held_package s c.args.table.now.slot h in
    let all : c.loop-i.i ≡ h.exports = omega (arith, c.loop-i-test.false, c.loop-i.auto.i-end) in
    let same = all ∙ ap (λ (k : Header). k.exports) under.header in
    ap (option_map Package) (subst (λ (n : ℕ). first_fault (export_fault b) n ≡ None) same (c.loop-i.invariant.none s told under))
