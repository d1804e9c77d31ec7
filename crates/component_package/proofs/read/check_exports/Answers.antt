use Rattle.std.proofs.Common.{◌≡◌, ◌<◌, None, Ok, Err, sym, ap, subst, ◌∙◌, arith}
use Rattle.std.proofs.lemmas.Result.{err_from_is_err_and}
use Rattle.component_package.specs.declared.part.Header.{Header}
use Rattle.component_package.specs.packages.Reading.{header_of, export_fault, first_fault}
use Rattle.component_package.proofs.First.{first_fault-at, first_fault-more}
use Rattle.component_package.proofs.Steps.{export_fault_is, symbol_after}
use Rattle.component_package.proofs.read.check_exports.Goals as goal

pub returns-in_err-export : goal.returns-in_err-export
returns-in_err-export c =
    let b = c.args.bytes.now in
    let p = err_from_is_err_and c.from_residual.result c.from_residual.ensures.1 in
    let here = export_fault_is b c.args.h.now c.loop-i.before c.loop-i.i c.export_raw.result (Err c.in_err-export.field-0.0) c.requires.header c.loop-i.invariant.before c.export_raw.ensures c.in_err-export.ensures in
    let below : c.loop-i.i < (header_of b).exports = omega (arith, c.loop-i-test.true, ap (λ (h : Header). h.exports) c.requires.header) in
    rw (p.1, p.2) (sym (first_fault-at (export_fault b) (header_of b).exports c.loop-i.i c.in_err-export.field-0.0 below c.loop-i.invariant.none here))

pub loop-i-preserved : goal.loop-i-preserved
loop-i-preserved c =
    let b = c.args.bytes.now in
    let here = export_fault_is b c.args.h.now c.loop-i.before c.loop-i.i c.export_raw.result (Ok c.in_ok-export.export) c.requires.header c.loop-i.invariant.before c.export_raw.ensures c.in_ok-export.ensures in
    record {
      none = first_fault-more (export_fault b) c.loop-i.i c.loop-i.invariant.none here;
      before = symbol_after b c.args.h.now c.loop-i.before c.loop-i.i c.export_raw.result c.in_ok-export.export c.export_raw.ensures c.in_ok-export.ensures;
    }

pub returns : goal.returns
returns c =
    let b = c.args.bytes.now in
    let all : c.loop-i.i ≡ c.args.h.now.exports = omega arith in
    let same = all ∙ ap (λ (h : Header). h.exports) c.requires.header in
    sym (subst (λ n. first_fault (export_fault b) n ≡ None) same c.loop-i.invariant.none)
