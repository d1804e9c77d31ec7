use Rattle.std.proofs.Common.{◌≡◌, ℕ, ◌+◌, ◌≤◌, ◌++◌, List, length, replicate, take, drop, ap, ap₂, ◌∙◌, rules, slice_range}
use Rattle.std.proofs.lemmas.List.{length-take-le, drop-replicate}
use Rattle.component_package.specs.mote.Store.{slot_at}
use Rattle.component_package.specs.declared.part.Header.{Header}
use Rattle.component_package.specs.packages.Reading.{total_of}
use Rattle.component_package.specs.Laws.{spanned_field}
use Rattle.component_store.specs.Reader.{held_package}
use Rattle.component_store.proofs.HeldLemmas.{held_slice}
use Rattle.component_store.proofs.records.field_raw.Goals as goal

pub returns-in_ok-read-clause-answer : goal.returns-in_ok-read-clause-answer
returns-in_ok-read-clause-answer g c = λ s told under.
    let h : Header = c.args.h.now in
    let slot : ℕ = c.args.fields.now.slot in
    let at : ℕ = c.in-Some.at in
    let w : ℕ = c.in-Some.width in
    let b : List ℕ = held_package s slot h in
    let wide : w ≤ 4 = search rules in
    let inside : at + w ≤ total_of h = search rules in
    let count : length (take w (replicate 4 0)) ≡ w = length-take-le w (replicate 4 0) wide in
    let read : c.read.new.into ≡ slice_range b at (at + w) = c.in_ok-read.ensures.answer s told under.keeps ∙ ap (λ (n : ℕ). take n (drop at (slot_at s.ext slot))) count ∙ held_slice s slot (total_of h) at w inside in
    ap₂ (λ (x y : List ℕ). x ++ y) read (drop-replicate w 4 0) ∙ ap (spanned_field b) c.in-Some.ensures
