use Rattle.std.proofs.Common.{◌≡◌, ◌<◌, None, Ok, Err, sym, ap, subst, ◌∙◌, arith}
use Rattle.std.proofs.lemmas.Result.{err_from_is_err_and}
use Rattle.component_package.specs.declared.part.Header.{Header}
use Rattle.component_package.specs.packages.Reading.{header_of, reloc_fault, first_fault}
use Rattle.component_package.proofs.First.{first_fault-at, first_fault-more}
use Rattle.component_package.proofs.Steps.{reloc_fault_is, reloc_after}
use Rattle.component_package.proofs.read.check_relocs.Goals as goal

pub returns-in_err-reloc : goal.returns-in_err-reloc
returns-in_err-reloc c =
    let b = c.args.bytes.now in
    let p = err_from_is_err_and c.from_residual.result c.from_residual.ensures.1 in
    let here = reloc_fault_is b c.args.h.now c.loop-i.before c.loop-i.i c.reloc_raw-raw.result c.field_raw-field.result (Err c.in_err-reloc.field-0.0) c.requires.header c.loop-i.invariant.before c.reloc_raw-raw.ensures c.field_raw-field.ensures (rw (c.as_ref.ensures.value) at c.in_err-reloc.ensures) in
    let below : c.loop-i.i < (header_of b).relocs = omega (arith, c.loop-i-test.true, ap (λ (h : Header). h.relocs) c.requires.header) in
    rw (p.1, p.2) (sym (first_fault-at (reloc_fault b) (header_of b).relocs c.loop-i.i c.in_err-reloc.field-0.0 below c.loop-i.invariant.none here))

pub loop-i-preserved : goal.loop-i-preserved
loop-i-preserved c =
    let b = c.args.bytes.now in
    let result = rw (c.as_ref.ensures.value) at c.in_ok-reloc.ensures in
    let here = reloc_fault_is b c.args.h.now c.loop-i.before c.loop-i.i c.reloc_raw-raw.result c.field_raw-field.result (Ok c.in_ok-reloc.reloc) c.requires.header c.loop-i.invariant.before c.reloc_raw-raw.ensures c.field_raw-field.ensures result in
    record {
      none = first_fault-more (reloc_fault b) c.loop-i.i c.loop-i.invariant.none here;
      before = reloc_after b c.args.h.now c.loop-i.before c.loop-i.i c.reloc_raw-raw.result c.field_raw-field.result c.in_ok-reloc.reloc c.reloc_raw-raw.ensures result;
    }

pub returns : goal.returns
returns c =
    let b = c.args.bytes.now in
    let all : c.loop-i.i ≡ c.args.h.now.relocs = omega arith in
    let same = all ∙ ap (λ (h : Header). h.relocs) c.requires.header in
    sym (subst (λ n. first_fault (reloc_fault b) n ≡ None) same c.loop-i.invariant.none)
