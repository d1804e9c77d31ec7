use Rattle.std.proofs.Common.{◌≡◌, ℕ, ◌<◌, List, Some, None, sym, ap, ap₂, ◌∙◌, arith, get_or}
use Rattle.std.specs.Prelude.{slice_get}
use Rattle.component_package.specs.declared.part.Export.{Export}
use Rattle.component_package.specs.declared.part.Header.{Header}
use Rattle.component_package.specs.packages.Component.{Component}
use Rattle.component_package.specs.packages.Reading.{header_of, check_export_of, export_of, raw_export, export_fault, symbol_before}
use Rattle.component_package.proofs.Lists.{slice_get-list_of}
use Rattle.component_package.proofs.Spelled.{faultless}
use Rattle.component_store.specs.Reader.{IsUnder, held_package}
use Rattle.component_store.specs.Sets.{header_at}
use Rattle.component_store.proofs.PartLemmas.{IsHeld, held_component, export_alone}
use Rattle.component_store.proofs.parts.export_at.Goals as goal

pub returns-clause-answer : goal.returns-clause-answer
returns-clause-answer g c = λ s told holds comp component.
    let h : Header = header_at c.args.set.now c.args.k in
    let i : ℕ = c.args.i in
    let slot : ℕ = get_or c.args.set.now.slots.slots c.args.k 0 in
    let own = c.reader_of-table.ensures.slot in
    let held : IsHeld s slot h comp = held_component s c.args.set.now c.args.k comp c.requires.set c.reader_of-table.ensures.rooms c.requires.component holds component in
    let b : List ℕ = held_package s slot h in
    let under : IsUnder s c.reader_of-table.result h = record { keeps = c.reader_of-table.ensures.keeps s; header = held.header ∙ ap (λ (j : ℕ). header_of (held_package s j h)) (sym own) } in
    let raw : c.in_ok-raw.raw ≡ raw_export b i = c.in_ok-raw.ensures.answer s told under ∙ ap (λ (j : ℕ). raw_export (held_package s j h) i) own in
    let asked : i < h.exports = c.requires.export in
    let count : h.exports ≡ (header_of b).exports = ap (λ (k : Header). k.exports) held.header in
    let below : i < (header_of b).exports = omega arith in
    let fine : export_fault b i ≡ None = (faultless b held.sound).exports i below in
    let alone = export_alone (header_of b) (symbol_before b i) i (raw_export b i) fine in
    let said = ap₂ (λ (k : Header) (r : List ℕ). check_export_of k None i r) held.header raw ∙ alone in
    let result = c.export_in.ensures (export_of (raw_export b i)) said in
    ap (λ (x : Component). slice_get x.exports i) held.component ∙ slice_get-list_of (λ j. export_of (raw_export b j)) (header_of b).exports i below ∙ ap (λ (x : Export). Some x) (sym result)
