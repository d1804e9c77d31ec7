use Rattle.std.proofs.Common.{◌≡◌, ◌<◌, ℕ, None, Ok, length, ap, subst, arith}
use Rattle.component_package.specs.declared.part.Export.{Export}
use Rattle.component_package.specs.declared.part.Header.{Header}
use Rattle.component_package.specs.packages.Reading.{check_export_of}
use Rattle.kept_store.specs.Sets.{header_at}
use Rattle.kept_store.proofs.RecordLemmas.{export_there}
use Rattle.kept_store.proofs.records.export_at.Goals as goal

pub returns-clause-answer : goal.returns-clause-answer
returns-clause-answer g c = λ s told comp own.
    let i : ℕ = c.args.i in
    let h : Header = header_at c.args.set.now c.args.k in
    let count : h.exports ≡ length comp.exports = ap (λ (x : Header). x.exports) own.header in
    let asked : i < h.exports = c.requires.export in
    let raw = c.in_ok-run_bytes.ensures.answer s told (c.new-table.ensures.keeps s) comp own in
    let says = subst (λ (x : Header). (e : Export) → check_export_of x None i c.run_bytes.new.into ≡ Ok e → c.export_in.result ≡ e) own.header c.export_in.ensures in
    export_there comp i c.run_bytes.new.into c.export_in.result own.readable.entry.component (omega arith) raw says
