use Rattle.std.proofs.Common.{◌≡◌, ℕ, ◌<◌, List, Some, None, sym, ap, ap₂, ◌∙◌, arith, get_or}
use Rattle.std.specs.Prelude.{slice_get}
use Rattle.component_package.specs.declared.part.Reloc.{Reloc}
use Rattle.component_package.specs.declared.part.Header.{Header}
use Rattle.component_package.specs.packages.Component.{Component}
use Rattle.component_package.specs.packages.Reading.{header_of, check_reloc_of, reloc_of, raw_reloc, reloc_fault, reloc_before, raw_field}
use Rattle.component_package.proofs.Lists.{slice_get-list_of}
use Rattle.component_package.proofs.Spelled.{faultless}
use Rattle.component_store.specs.Reader.{IsUnder, held_package}
use Rattle.component_store.specs.Sets.{header_at}
use Rattle.component_store.proofs.PartLemmas.{IsHeld, held_component, reloc_alone, no_field}
use Rattle.component_store.proofs.parts.read_reloc.Goals as goal

pub returns-clause-answer : goal.returns-clause-answer
returns-clause-answer g c = λ s told keeps holds comp component.
    let h : Header = header_at c.args.set.now c.args.k in
    let i : ℕ = c.args.i in
    let slot : ℕ = get_or c.args.set.now.slots.slots c.args.k 0 in
    let own = c.turn_to.ensures.slot in
    let held : IsHeld s slot h comp = held_component s c.args.set.now c.args.k comp c.requires.set c.turn_to.ensures.rooms c.requires.component holds component in
    let b : List ℕ = held_package s slot h in
    let under : IsUnder s c.turn_to.new.table h = record { keeps = c.turn_to.ensures.keeps s keeps; header = held.header ∙ ap (λ (j : ℕ). header_of (held_package s j h)) (sym own) } in
    let raw : c.in_ok-raw.raw ≡ raw_reloc b i = c.in_ok-raw.ensures.answer s told under ∙ ap (λ (j : ℕ). raw_reloc (held_package s j h) i) own in
    let asked : i < h.relocs = c.requires.reloc in
    let count : h.relocs ≡ (header_of b).relocs = ap (λ (k : Header). k.relocs) held.header in
    let below : i < (header_of b).relocs = omega arith in
    let fine : reloc_fault b i ≡ None = (faultless b held.sound).relocs i below in
    let alone = reloc_alone (header_of b) (reloc_before b i) i (raw_reloc b i) (raw_field b (reloc_of (raw_reloc b i))) fine in
    let said = ap₂ (λ (k : Header) (r : List ℕ). check_reloc_of k None i r no_field) held.header raw ∙ alone in
    let result = c.reloc_in.ensures (reloc_of (raw_reloc b i)) said in
    ap (λ (x : Component). slice_get x.relocs i) held.component ∙ slice_get-list_of (λ j. reloc_of (raw_reloc b j)) (header_of b).relocs i below ∙ ap (λ (x : Reloc). Some x) (sym result)

pub returns-clause-keeps : goal.returns-clause-keeps
returns-clause-keeps g c = λ s told keeps holds comp component.
    let h : Header = header_at c.args.set.now c.args.k in
    let slot : ℕ = get_or c.args.set.now.slots.slots c.args.k 0 in
    let held : IsHeld s slot h comp = held_component s c.args.set.now c.args.k comp c.requires.set c.turn_to.ensures.rooms c.requires.component holds component in
    let under : IsUnder s c.turn_to.new.table h = record { keeps = c.turn_to.ensures.keeps s keeps; header = held.header ∙ ap (λ (j : ℕ). header_of (held_package s j h)) (sym c.turn_to.ensures.slot) } in
    (c.in_ok-raw.ensures.keeps s told under).keeps
