use Rattle.std.proofs.Common.{◌≢◌, inl, inr, ◌≡◌, ℕ, Some, None, length, get_or, refl, sym, ap, subst, ◌∙◌, arith, rules}
use Rattle.std.specs.Prelude.{slice_get, IsTrue}
use Rattle.std.specs.Option.{option_map}
use Rattle.std.proofs.lemmas.List.{length-set}
use Rattle.std.proofs.lemmas.Option.{same_Some, get_or_from_slice_get}
use Rattle.flash_pages.proofs.Runs.{reads_reads}
use Rattle.component_package.specs.declared.manifest.Entry.{Entry}
use Rattle.component_package.specs.declared.part.Header.{Header}
use Rattle.component_package.specs.packages.Reading.{header_of, total_of, has_even_lengths}
use Rattle.component_package.specs.packages.Manifest.{Placed, stored_of}
use Rattle.component_package.specs.mote.Store.{slots_of, package_in, bad_package_at, BadPackage}
use Rattle.component_package.proofs.First.{first_fault-at, first_fault-more}
use Rattle.component_store.proofs.OpenLemmas.{no_entry, entry_of, is_entry, package_is, bad_is, set_or_kept, numbered}
use Rattle.component_store.specs.Sets.{number_of_stored_fault}
use Rattle.component_store.proofs.open.check_packages.Goals as goal

pub check_package-requires-clause-slot : goal.check_package-requires-clause-slot
check_package-requires-clause-slot g c =
    let m = c.args.m.now in
    let room : length m.manifest.entries ≡ 16 = search rules in
    let slot_room : length m.slots ≡ 16 = search rules in
    let k : ℕ = c.loop-k.k in
    let at = is_entry m k c.requires room slot_room c.loop-k-test.true in
    at.slot

pub check_package-requires-clause-least : goal.check_package-requires-clause-least
check_package-requires-clause-least g c =
    let m = c.args.m.now in
    let room : length m.manifest.entries ≡ 16 = search rules in
    let slot_room : length m.slots ≡ 16 = search rules in
    let k : ℕ = c.loop-k.k in
    let at = is_entry m k c.requires room slot_room c.loop-k-test.true in
    at.entry.least

pub check_package-requires-clause-most : goal.check_package-requires-clause-most
check_package-requires-clause-most g c =
    let m = c.args.m.now in
    let room : length m.manifest.entries ≡ 16 = search rules in
    let slot_room : length m.slots ≡ 16 = search rules in
    let k : ℕ = c.loop-k.k in
    let at = is_entry m k c.requires room slot_room c.loop-k-test.true in
    at.entry.most

pub returns-in-Some-clause-answer : goal.returns-in-Some-clause-answer
returns-in-Some-clause-answer g c = λ e s told.
    let m = c.args.m.now in
    let room : length m.manifest.entries ≡ 16 = search rules in
    let slot_room : length m.slots ≡ 16 = search rules in
    let k : ℕ = c.loop-k.k in
    let at = is_entry m k c.requires room slot_room c.loop-k-test.true in
    let number : number_of_stored_fault c.in-Err.fault ≡ Some c.in-Some.number = sym c.number.ensures ∙ c.in-Some.is in
    let answer = c.in-Err.ensures.answer (numbered c.in-Err.fault c.in-Some.number number) s (c.loop-k.invariant.reads.state ∙ told) in
    let here = bad_is s (stored_of m) k (entry_of m k) (Some c.in-Err.fault) at.here at.slot answer ∙ ap (option_map (BadPackage k)) number in
    first_fault-at (bad_package_at (slots_of s.ext) (stored_of m)) m.manifest.count k (BadPackage k c.in-Some.number) c.loop-k-test.true (c.loop-k.invariant.none s told) here

pub returns-in-Some-clause-reads : goal.returns-in-Some-clause-reads
returns-in-Some-clause-reads g c = reads_reads _ _ _ c.loop-k.invariant.reads c.check_package.ensures.reads

pub returns-in-None-clause-reads : goal.returns-in-None-clause-reads
returns-in-None-clause-reads g c = reads_reads _ _ _ c.loop-k.invariant.reads c.check_package.ensures.reads

pub loop-k-preserved : goal.loop-k-preserved
loop-k-preserved g c = record {
  room = length-set c.loop-k.headers c.loop-k.k c.in-Ok.header ∙ c.loop-k.invariant.room;
  none = λ s told.
      let m = c.args.m.now in
      let room : length m.manifest.entries ≡ 16 = search rules in
      let slot_room : length m.slots ≡ 16 = search rules in
      let k : ℕ = c.loop-k.k in
      let at = is_entry m k c.requires room slot_room c.loop-k-test.true in
      let here = bad_is s (stored_of m) k (entry_of m k) None at.here at.slot (c.in-Ok.ensures.answer refl s (c.loop-k.invariant.reads.state ∙ told)) in
      first_fault-more (bad_package_at (slots_of s.ext) (stored_of m)) k (c.loop-k.invariant.none s told) here;
  headers = λ s told j h p lt at_h at_p.
      let m = c.args.m.now in
      let room : length m.manifest.entries ≡ 16 = search rules in
      let slot_room : length m.slots ≡ 16 = search rules in
      let k : ℕ = c.loop-k.k in
      let at = is_entry m k c.requires room slot_room c.loop-k-test.true in
      let read = c.in-Ok.ensures.header s (c.loop-k.invariant.reads.state ∙ told) in
      elim (set_or_kept c.loop-k.headers k j c.in-Ok.header h at_h) [
        | inl both ↦
            let p_is : p ≡ entry_of m k = same_Some p (entry_of m k) (sym at_p ∙ ap (slice_get (stored_of m).placed) both.0 ∙ at.here) in
            both.1 ∙ read ∙ ap header_of (sym (package_is s (entry_of m k) at.slot)) ∙ ap (λ (q : Placed). header_of (package_in (slots_of s.ext) q)) (sym p_is)
        | inr both ↦ let apart : j ≢ k = both.0 in c.loop-k.invariant.headers s told j h p (omega (arith, lt)) both.1 at_p
      ];
  fits = λ j h e lt at_h at_e.
      let m = c.args.m.now in
      let k : ℕ = c.loop-k.k in
      elim (set_or_kept c.loop-k.headers k j c.in-Ok.header h at_h) [
        | inl both ↦
            let e_is : get_or m.manifest.entries k no_entry ≡ e = ap (λ (i : ℕ). get_or m.manifest.entries i no_entry) (sym both.0) ∙ get_or_from_slice_get m.manifest.entries j e no_entry at_e in
            record { even = subst (λ (x : Header). IsTrue (has_even_lengths x)) (sym both.1) c.in-Ok.ensures.even; total = ap total_of both.1 ∙ c.in-Ok.ensures.total ∙ ap (λ (x : Entry). x.length) e_is }
        | inr both ↦ let apart : j ≢ k = both.0 in c.loop-k.invariant.fits j h e (omega (arith, lt)) both.1 at_e
      ];
  reads = reads_reads _ _ _ c.loop-k.invariant.reads c.check_package.ensures.reads;
  fault = c.in-Ok.ensures.faults ∙ c.loop-k.invariant.fault;
}
