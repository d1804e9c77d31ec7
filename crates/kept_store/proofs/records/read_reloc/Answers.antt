use Rattle.std.proofs.Common.{◌≡◌, ◌+◌, ◌*◌, ◌<◌, ℕ, None, Ok, length, ap, subst, ◌∙◌, arith, slice_range}
use Rattle.component_package.specs.declared.part.Reloc.{Reloc}
use Rattle.component_package.specs.declared.part.Header.{Header}
use Rattle.component_package.specs.packages.Reading.{check_reloc_of}
use Rattle.component_store.proofs.PartLemmas.{no_field}
use Rattle.kept_definitions.specs.Runs.{run_of}
use Rattle.kept_store.specs.Sets.{header_at}
use Rattle.kept_store.proofs.RecordLemmas.{reloc_there}
use Rattle.kept_store.proofs.records.read_reloc.Goals as goal

pub returns-clause-answer : goal.returns-clause-answer
returns-clause-answer g c = λ s told keeps comp own.
    let i : ℕ = c.args.i in
    let h : Header = header_at c.args.set.now c.args.k in
    let count : h.relocs ≡ length comp.relocs = ap (λ (x : Header). x.relocs) own.header in
    let exports : h.exports ≡ length comp.exports = ap (λ (x : Header). x.exports) own.header in
    let asked : i < h.relocs = c.requires.reloc in
    let start : c.relocs_start.result + 8 * i ≡ 32 + 6 * length comp.exports + 8 * i = omega (arith, c.relocs_start.ensures.at) in
    let raw = c.in_ok-run_bytes.ensures.answer s told keeps comp own ∙ ap (λ (k : ℕ). slice_range (run_of comp) k (k + 8)) start in
    let says = subst (λ (x : Header). (r : Reloc) → check_reloc_of x None i c.run_bytes.new.into no_field ≡ Ok r → c.reloc_in.result ≡ r) own.header c.reloc_in.ensures in
    reloc_there comp i c.run_bytes.new.into c.reloc_in.result own.readable.entry.component (omega arith) raw says
