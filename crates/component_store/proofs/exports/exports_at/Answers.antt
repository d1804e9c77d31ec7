use Rattle.std.proofs.Common.{◌≡◌, ℕ, ◌+◌, ◌-◌, ◌<◌, List, [], ◌∷◌, ◌++◌, length, take, drop, get_or, sym, ap, ◌∙◌, arith, rules}
use Rattle.std.proofs.lemmas.List.{take_more_set, take_all}
use Rattle.flash_pages.proofs.Runs.{reads_reads}
use Rattle.component_package.specs.declared.part.Export.{Export}
use Rattle.component_package.specs.declared.part.Header.{Header}
use Rattle.component_package.specs.packages.Reading.{header_of, raw_export}
use Rattle.component_store.specs.Reader.{held_package}
use Rattle.component_store.specs.Sets.{header_at}
use Rattle.component_store.proofs.Calls.{reads_none}
use Rattle.component_store.proofs.PartLemmas.{IsHeld, held_component}
use Rattle.component_store.proofs.ExportLemmas.{held_export, held_count, range_more}
use Rattle.component_store.proofs.exports.exports_at.Goals as goal

pub returns-in_err-raw-clause-reads : goal.returns-in_err-raw-clause-reads
returns-in_err-raw-clause-reads g c = reads_reads _ _ _ c.loop-j.invariant.reads c.export_raw.ensures.reads

pub loop-j-init : goal.loop-j-init
loop-j-init g c = record {
  room = search rules;
  slot = c.reader_of-table.ensures.slot;
  under = λ s told holds comp component.
      let h : Header = header_at c.args.set.now c.args.k in
      let own = c.reader_of-table.ensures.slot in
      let held : IsHeld s (get_or c.args.set.now.slots.slots c.args.k 0) h comp = held_component s c.args.set.now c.args.k comp c.requires.set c.reader_of-table.ensures.rooms c.requires.component holds component in
      record { keeps = c.reader_of-table.ensures.keeps s; header = held.header ∙ ap (λ (j : ℕ). header_of (held_package s j h)) (sym own) };
  done = λ s told holds comp component. (let e : c.args.i + 0 - c.args.i ≡ 0 = omega arith in sym (ap (λ (n : ℕ). take n (drop c.args.i comp.exports)) e));
  reads = reads_none _;
  fault = search rules;
}

pub loop-j-preserved : goal.loop-j-preserved
loop-j-preserved g c = record {
  room = search rules;
  slot = c.export_raw.ensures.slot ∙ c.loop-j.invariant.slot;
  under = λ s told holds comp component. c.in_ok-raw.ensures.keeps s (c.loop-j.invariant.reads.state ∙ told) (c.loop-j.invariant.under s told holds comp component);
  done = λ s told holds comp component.
      let before = c.loop-j.invariant.done s told holds comp component in
      let under = c.loop-j.invariant.under s told holds comp component in
      let h : Header = header_at c.args.set.now c.args.k in
      let bytes = c.in_ok-raw.ensures.answer s (c.loop-j.invariant.reads.state ∙ told) under ∙ ap (λ (n : ℕ). raw_export (held_package s n h) (c.args.i + c.loop-j.j)) c.loop-j.invariant.slot in
      let room : length c.loop-j.into ≡ length c.args.into.now = c.loop-j.invariant.room in
      let within = c.requires.within in
      let inside : c.loop-j.j < length c.loop-j.into = search rules in
      let e : Export = c.export_in.result in
      let here = held_export s c.args.set.now c.args.k comp c.requires.set c.reader_of-table.ensures.rooms c.requires.component holds component (c.args.i + c.loop-j.j) c.in_ok-raw.raw e (omega arith) bytes c.export_in.ensures in
      take_more_set c.loop-j.into c.loop-j.j e inside ∙ ap (λ (xs : List Export). xs ++ e ∷ []) before ∙ sym (range_more comp.exports c.args.i c.loop-j.j e here);
  reads = reads_reads _ _ _ c.loop-j.invariant.reads c.export_raw.ensures.reads;
  fault = c.in_ok-raw.ensures.faults ∙ c.loop-j.invariant.fault;
}

pub returns-clause-answer : goal.returns-clause-answer
returns-clause-answer g c = λ s told holds comp component.
    let room : length c.loop-j.into ≡ length c.args.into.now = c.loop-j.invariant.room in
    let all : c.loop-j.j ≡ length c.args.into.now = search rules in
    sym (take_all c.loop-j.j c.loop-j.into (omega arith)) ∙ c.loop-j.invariant.done s told holds comp component
    ∙ ap (λ (n : ℕ). take (c.args.i + n - c.args.i) (drop c.args.i comp.exports)) all

pub returns-clause-count : goal.returns-clause-count
returns-clause-count g c = λ s told holds comp component.
    held_count s c.args.set.now c.args.k comp c.requires.set c.reader_of-table.ensures.rooms c.requires.component holds component

pub returns-in_err-raw-clause-count : goal.returns-in_err-raw-clause-count
returns-in_err-raw-clause-count g c = λ s told holds comp component.
    held_count s c.args.set.now c.args.k comp c.requires.set c.reader_of-table.ensures.rooms c.requires.component holds component
