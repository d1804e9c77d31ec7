use Rattle.std.proofs.Common.{◌≡◌, ℕ, ◌+◌, ◌-◌, ◌<◌, ◌≤◌, List, [], ◌∷◌, ◌++◌, None, Ok, length, take, drop, sym, ap, subst, ◌∙◌, arith, rules}
use Rattle.std.proofs.lemmas.List.{take_more_set, take_all}
use Rattle.flash_pages.proofs.Runs.{reads_reads}
use Rattle.component_package.specs.declared.part.Export.{Export}
use Rattle.component_package.specs.declared.part.Header.{Header}
use Rattle.component_package.specs.packages.Reading.{check_export_of}
use Rattle.component_store.proofs.Calls.{reads_none}
use Rattle.component_store.proofs.ExportLemmas.{range_more}
use Rattle.kept_store.specs.declared.set.StoredSet.{StoredSet}
use Rattle.kept_store.specs.Sets.{IsSet, header_at}
use Rattle.kept_store.specs.Open.{HasRooms}
use Rattle.kept_store.proofs.RecordLemmas.{fits_slot, export_there}
use Rattle.kept_store.proofs.exports.exports_at.Goals as goal

-- an export's number is low
number_low : (set : StoredSet) (k i n j : ℕ) → IsSet set → HasRooms set → k < set.slots.manifest.count → i + n ≤ (header_at set k).exports → j < n → i + j < 9984
number_low set k i n j is rooms lt within below = omega (arith, fits_slot set k is rooms lt)

pub overflow_cast-at : goal.overflow_cast-at
overflow_cast-at g c =
    let low = number_low c.args.set.now c.args.k c.args.i (length c.args.into.now) c.loop-j.j c.requires.set c.has_rooms.ensures c.requires.component c.requires.within c.loop-j-test.true in
    record { fits = omega (arith, low) }

pub overflow_add-at : goal.overflow_add-at
overflow_add-at g c =
    let low = number_low c.args.set.now c.args.k c.args.i (length c.args.into.now) c.loop-j.j c.requires.set c.has_rooms.ensures c.requires.component c.requires.within c.loop-j-test.true in
    record { fits = omega (arith, low) }

pub overflow_cast-at-in-loop-j : goal.overflow_cast-at-in-loop-j
overflow_cast-at-in-loop-j g c =
    let low = number_low c.args.set.now c.args.k c.args.i (length c.args.into.now) c.loop-j.j c.requires.set c.has_rooms.ensures c.requires.component c.requires.within c.loop-j-test.true in
    record { fits = omega (arith, low) }

pub overflow_mul-at : goal.overflow_mul-at
overflow_mul-at g c =
    let low = number_low c.args.set.now c.args.k c.args.i (length c.args.into.now) c.loop-j.j c.requires.set c.has_rooms.ensures c.requires.component c.requires.within c.loop-j-test.true in
    record { fits = omega (arith, low) }

pub overflow_add-at-in-loop-j : goal.overflow_add-at-in-loop-j
overflow_add-at-in-loop-j g c =
    let low = number_low c.args.set.now c.args.k c.args.i (length c.args.into.now) c.loop-j.j c.requires.set c.has_rooms.ensures c.requires.component c.requires.within c.loop-j-test.true in
    record { fits = omega (arith, low) }

pub returns-in_err-run_bytes-clause-reads : goal.returns-in_err-run_bytes-clause-reads
returns-in_err-run_bytes-clause-reads g c = reads_reads _ _ _ c.loop-j.invariant.reads c.run_bytes.ensures.reads

pub loop-j-init : goal.loop-j-init
loop-j-init g c = record {
  room = search rules;
  keeps = λ s told. c.new-table.ensures.keeps s;
  done = λ s told comp own. (let e : c.args.i + 0 - c.args.i ≡ 0 = omega arith in sym (ap (λ (n : ℕ). take n (drop c.args.i comp.exports)) e));
  reads = reads_none _;
  fault = search rules;
}

pub loop-j-preserved : goal.loop-j-preserved
loop-j-preserved g c = record {
  room = search rules;
  keeps = λ s told. c.run_bytes.ensures.keeps s (c.loop-j.invariant.reads.state ∙ told) (c.loop-j.invariant.keeps s told);
  done = λ s told comp own.
      let before = c.loop-j.invariant.done s told comp own in
      let h : Header = header_at c.args.set.now c.args.k in
      let room : length c.loop-j.into ≡ length c.args.into.now = c.loop-j.invariant.room in
      let within = c.requires.within in
      let inside : c.loop-j.j < length c.loop-j.into = search rules in
      let count : h.exports ≡ length comp.exports = ap (λ (x : Header). x.exports) own.header in
      let raw = c.in_ok-run_bytes.ensures.answer s (c.loop-j.invariant.reads.state ∙ told) (c.loop-j.invariant.keeps s told) comp own in
      let e : Export = c.export_or.result in
      let says = subst (λ (x : Header). (y : Export) → check_export_of x None (c.args.i + c.loop-j.j) c.run_bytes.new.into ≡ Ok y → e ≡ y) own.header c.export_or.ensures in
      let here = export_there comp (c.args.i + c.loop-j.j) c.run_bytes.new.into e own.readable.entry.component (omega arith) raw says in
      take_more_set c.loop-j.into c.loop-j.j e inside ∙ ap (λ (xs : List Export). xs ++ e ∷ []) before ∙ sym (range_more comp.exports c.args.i c.loop-j.j e here);
  reads = reads_reads _ _ _ c.loop-j.invariant.reads c.run_bytes.ensures.reads;
  fault = c.in_ok-run_bytes.ensures.faults ∙ c.loop-j.invariant.fault;
}

pub returns-clause-answer : goal.returns-clause-answer
returns-clause-answer g c = λ s told comp own.
    let room : length c.loop-j.into ≡ length c.args.into.now = c.loop-j.invariant.room in
    let all : c.loop-j.j ≡ length c.args.into.now = search rules in
    sym (take_all c.loop-j.j c.loop-j.into (omega arith)) ∙ c.loop-j.invariant.done s told comp own
    ∙ ap (λ (n : ℕ). take (c.args.i + n - c.args.i) (drop c.args.i comp.exports)) all

pub returns-clause-count : goal.returns-clause-count
returns-clause-count g c = λ s told comp own. sym (ap (λ (x : Header). x.exports) own.header)

pub returns-in_err-run_bytes-clause-count : goal.returns-in_err-run_bytes-clause-count
returns-in_err-run_bytes-clause-count g c = λ s told comp own. sym (ap (λ (x : Header). x.exports) own.header)
