use Rattle.std.proofs.Common.{ℕ, ◌+◌, ◌*◌, List, ap, ◌∙◌, arith, slice_range}
use Rattle.component_package.specs.declared.part.Header.{Header}
use Rattle.component_package.specs.packages.Reading.{relocs_at, total_of}
use Rattle.component_store.specs.Reader.{held_package}
use Rattle.component_store.proofs.HeldLemmas.{held_slice}
use Rattle.component_store.proofs.records.reloc_raw.Goals as goal

pub returns-clause-answer : goal.returns-clause-answer
returns-clause-answer g c = λ s told under.
    let h : Header = c.args.h.now in
    let slot : ℕ = c.args.table.now.slot in
    let b : List ℕ = held_package s slot h in
    let at : ℕ = relocs_at h + 8 * c.args.i in
    let inside = c.requires.inside in
    let read = c.in_ok-read.ensures.answer s told under.keeps in
    read ∙ held_slice s slot (total_of h) at 8 (omega arith) ∙ ap (λ (k : Header). slice_range b (relocs_at k + 8 * c.args.i) (relocs_at k + 8 * c.args.i + 8)) under.header
