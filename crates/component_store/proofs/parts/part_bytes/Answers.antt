use Rattle.std.proofs.Common.{◌≡◌, ℕ, ◌+◌, ◌-◌, ◌<◌, ◌≤◌, ◌++◌, List, length, take, drop, get_or, cond, sym, ap, ap₂, ◌∙◌, arith, rules, slice_range}
use Rattle.std.proofs.lemmas.List.{take_all, drop-drop, length-take-le, length-drop}
use Rattle.std.proofs.lemmas.Slice.{take-put_mid}
use Rattle.flash_pages.proofs.Runs.{reads_reads}
use Rattle.component_package.specs.declared.part.Header.{Header}
use Rattle.component_package.specs.packages.Component.{Component}
use Rattle.component_package.specs.packages.Reading.{total_of}
use Rattle.component_package.specs.mote.Store.{slot_at}
use Rattle.component_package.proofs.StoredLemmas.{take_further}
use Rattle.component_store.specs.Reader.{held_package}
use Rattle.component_store.specs.Sets.{header_at, part_of}
use Rattle.component_store.proofs.HeldLemmas.{held_slice}
use Rattle.component_store.proofs.PartLemmas.{IsHeld, held_component, part_is, part_within}
use Rattle.component_store.proofs.parts.part_bytes.Goals as goal

pub returns-in_err-read-clause-reads : goal.returns-in_err-read-clause-reads
returns-in_err-read-clause-reads g c = reads_reads _ _ _ c.loop-at.invariant.reads c.read.ensures.reads

pub loop-at-preserved : goal.loop-at-preserved
loop-at-preserved g c = record {
  within = search rules;
  room = search rules;
  slot = c.read.ensures.slot ∙ c.loop-at.invariant.slot;
  keeps = λ s told. c.in_ok-read.ensures.keeps s (c.loop-at.invariant.reads.state ∙ told) (c.loop-at.invariant.keeps s told);
  bytes = λ s told.
      let read = c.in_ok-read.ensures.answer s (c.loop-at.invariant.reads.state ∙ told) (c.loop-at.invariant.keeps s told) in
      let at : ℕ = c.loop-at.at in
      let e : ℕ = c.min-end.result in
      let into : List ℕ = c.loop-at.into in
      let start : ℕ = c.part_start.result + c.args.from in
      let slot : ℕ = get_or c.args.set.now.slots.slots c.args.k 0 in
      let d : List ℕ = drop start (slot_at s.ext slot) in
      let more : at < length into = c.loop-at-test.true in
      let ahead : at ≤ e = search rules in
      let short : e ≤ length into = search rules in
      let middle : length (take (e - at) (drop at into)) ≡ e - at = length-take-le (e - at) (drop at into) (omega (arith, length-drop at into)) in
      let wide : length c.read.new.into ≡ e - at = search rules in
      let here : c.read.new.into ≡ take (e - at) (drop at d) = read ∙ ap₂ (λ (n k : ℕ). take n (drop (start + at) (slot_at s.ext k))) middle c.loop-at.invariant.slot ∙ ap (take (e - at)) (sym (drop-drop at start (slot_at s.ext slot))) in
      let next : at + (e - at) ≡ e = omega arith in
      take-put_mid at (e - at) into c.read.new.into e (omega arith) (omega arith)
      ∙ ap₂ (λ (x y : List ℕ). x ++ y) (c.loop-at.invariant.bytes s told) here ∙ sym (take_further d at (e - at)) ∙ ap (λ (k : ℕ). take k d) next;
  reads = reads_reads _ _ _ c.loop-at.invariant.reads c.read.ensures.reads;
  fault = c.in_ok-read.ensures.faults ∙ c.loop-at.invariant.fault;
}

pub returns-clause-answer : goal.returns-clause-answer
returns-clause-answer g c = λ s told holds comp component.
    let h : Header = header_at c.args.set.now c.args.k in
    let slot : ℕ = get_or c.args.set.now.slots.slots c.args.k 0 in
    let n : ℕ = length c.args.into.now in
    let in_init = c.args.in_init in
    let start : ℕ = 32 + cond in_init h.code 0 + c.args.from in
    let held : IsHeld s slot h comp = held_component s c.args.set.now c.args.k comp c.requires.set c.reader_of-reader.ensures.rooms c.requires.component holds component in
    let b : List ℕ = held_package s slot h in
    let room : length c.loop-at.into ≡ n = c.loop-at.invariant.room in
    let within : c.loop-at.at ≤ length c.loop-at.into = c.loop-at.invariant.within in
    let end : c.loop-at.at ≡ n = omega (arith, c.loop-at-test.false) in
    let bytes = c.loop-at.invariant.bytes s told in
    let all : c.loop-at.into ≡ take n (drop start (slot_at s.ext slot)) = sym (take_all c.loop-at.at c.loop-at.into (omega arith)) ∙ bytes ∙ ap₂ (λ (m p : ℕ). take m (drop (p + c.args.from) (slot_at s.ext slot))) end c.part_start.ensures in
    all ∙ held_slice s slot (total_of h) start n (part_within h in_init c.args.from n c.requires.within)
    ∙ sym (ap (λ (x : Component). slice_range (part_of x in_init) c.args.from (c.args.from + n)) held.component ∙ part_is b h in_init c.args.from n held.header c.requires.within)
