use Rattle.std.proofs.Common.{◌≡◌, Option, Err, List, length, refl, sym, ap₂, subst, ◌∙◌}
use Rattle.std.specs.Option.{option_or}
use Rattle.std.proofs.lemmas.Result.{err_from_is_err_and}
use Rattle.flash_pages.proofs.Runs.{reads_reads}
use Rattle.component_package.specs.declared.part.Header.{Header}
use Rattle.component_package.specs.packages.Reading.{first_fault}
use Rattle.component_package.specs.packages.Manifest.{stored_of}
use Rattle.component_package.specs.mote.Store.{slots_of, set_fault, missing_at, bad_package_at, SetFault}
use Rattle.component_store.specs.declared.set.SetFault as sets
use Rattle.component_store.specs.declared.set.StoredSet.{StoredSet}
use Rattle.component_store.specs.Sets.{SetFaultIs}
use Rattle.component_store.proofs.SlotLemmas.{pairs_at_most}
use Rattle.component_store.proofs.OpenLemmas.{first_fault-past, missing_past, bad_past, refused, refused_later}
use Rattle.component_store.proofs.open.open_set.Goals as goal

pub returns-in_err-check_digests-clause-answer : goal.returns-in_err-check_digests-clause-answer
returns-in_err-check_digests-clause-answer g c =
    let p = err_from_is_err_and c.from_residual.result c.from_residual.ensures.1 in
    let f : sets.SetFault = c.in_err-check_digests.field-0.0 in
    rw (p.1, p.2) (λ e s told.
    let m = c.args.m.now in
    let count = pairs_at_most m.manifest.entries m.slots m.manifest.count in
    let missing = first_fault-past (missing_at (slots_of s.ext) (stored_of m)) (length (stored_of m).placed) m.manifest.count count (missing_past (slots_of s.ext) (stored_of m)) in
    let bad = first_fault-past (bad_package_at (slots_of s.ext) (stored_of m)) (length (stored_of m).placed) m.manifest.count count (bad_past (slots_of s.ext) (stored_of m)) in
    let both : option_or (first_fault (missing_at (slots_of s.ext) (stored_of m)) m.manifest.count) (first_fault (bad_package_at (slots_of s.ext) (stored_of m)) m.manifest.count) ≡ set_fault (slots_of s.ext) (stored_of m) = ap₂ (λ (x y : Option SetFault). option_or x y) missing bad in
    let says = refused (Unit {0}) StoredSet f (first_fault (missing_at (slots_of s.ext) (stored_of m)) m.manifest.count) (first_fault (bad_package_at (slots_of s.ext) (stored_of m)) m.manifest.count) e (λ fine. c.in_err-check_digests.ensures.answer fine s told) in
    subst (λ (o : Option SetFault). SetFaultIs {A = StoredSet} (Err f) o) both says)

pub returns-clause-answer : goal.returns-clause-answer
returns-clause-answer g c = λ e s told.
    let m = c.args.m.now in
    let count = pairs_at_most m.manifest.entries m.slots m.manifest.count in
    let missing = first_fault-past (missing_at (slots_of s.ext) (stored_of m)) (length (stored_of m).placed) m.manifest.count count (missing_past (slots_of s.ext) (stored_of m)) in
    let bad = first_fault-past (bad_package_at (slots_of s.ext) (stored_of m)) (length (stored_of m).placed) m.manifest.count count (bad_past (slots_of s.ext) (stored_of m)) in
    let both : option_or (first_fault (missing_at (slots_of s.ext) (stored_of m)) m.manifest.count) (first_fault (bad_package_at (slots_of s.ext) (stored_of m)) m.manifest.count) ≡ set_fault (slots_of s.ext) (stored_of m) = ap₂ (λ (x y : Option SetFault). option_or x y) missing bad in
    sym both ∙ ap₂ (λ (x y : Option SetFault). option_or x y) (c.in_ok-check_digests.ensures.answer refl s told) (c.in_ok-headers.ensures.answer refl s (c.check_digests.ensures.reads.state ∙ told))

pub returns-clause-holds : goal.returns-clause-holds
returns-clause-holds g c = λ s told.
    let m = c.args.m.now in
    let count = pairs_at_most m.manifest.entries m.slots m.manifest.count in
    let missing = first_fault-past (missing_at (slots_of s.ext) (stored_of m)) (length (stored_of m).placed) m.manifest.count count (missing_past (slots_of s.ext) (stored_of m)) in
    let bad = first_fault-past (bad_package_at (slots_of s.ext) (stored_of m)) (length (stored_of m).placed) m.manifest.count count (bad_past (slots_of s.ext) (stored_of m)) in
    let both : option_or (first_fault (missing_at (slots_of s.ext) (stored_of m)) m.manifest.count) (first_fault (bad_package_at (slots_of s.ext) (stored_of m)) m.manifest.count) ≡ set_fault (slots_of s.ext) (stored_of m) = ap₂ (λ (x y : Option SetFault). option_or x y) missing bad in
    record {
      whole = sym both ∙ ap₂ (λ (x y : Option SetFault). option_or x y) (c.in_ok-check_digests.ensures.answer refl s told) (c.in_ok-headers.ensures.answer refl s (c.check_digests.ensures.reads.state ∙ told));
      headers = c.in_ok-headers.ensures.headers s (c.check_digests.ensures.reads.state ∙ told);
    }

pub returns-clause-reads : goal.returns-clause-reads
returns-clause-reads g c = reads_reads _ _ _ c.check_digests.ensures.reads c.check_packages.ensures.reads

pub returns-in_err-headers-clause-answer : goal.returns-in_err-headers-clause-answer
returns-in_err-headers-clause-answer g c =
    let p = err_from_is_err_and c.from_residual-in_err-headers.result c.from_residual-in_err-headers.ensures.1 in
    let f : sets.SetFault = c.in_err-headers.field-0.0 in
    rw (p.1, p.2) (λ e s told.
    let m = c.args.m.now in
    let count = pairs_at_most m.manifest.entries m.slots m.manifest.count in
    let missing = first_fault-past (missing_at (slots_of s.ext) (stored_of m)) (length (stored_of m).placed) m.manifest.count count (missing_past (slots_of s.ext) (stored_of m)) in
    let bad = first_fault-past (bad_package_at (slots_of s.ext) (stored_of m)) (length (stored_of m).placed) m.manifest.count count (bad_past (slots_of s.ext) (stored_of m)) in
    let both : option_or (first_fault (missing_at (slots_of s.ext) (stored_of m)) m.manifest.count) (first_fault (bad_package_at (slots_of s.ext) (stored_of m)) m.manifest.count) ≡ set_fault (slots_of s.ext) (stored_of m) = ap₂ (λ (x y : Option SetFault). option_or x y) missing bad in
    let says = refused_later (List Header) StoredSet f (first_fault (missing_at (slots_of s.ext) (stored_of m)) m.manifest.count) (first_fault (bad_package_at (slots_of s.ext) (stored_of m)) m.manifest.count) (c.in_ok-check_digests.ensures.answer refl s told) e (λ fine. c.in_err-headers.ensures.answer fine s (c.check_digests.ensures.reads.state ∙ told)) in
    subst (λ (o : Option SetFault). SetFaultIs {A = StoredSet} (Err f) o) both says)

pub returns-in_err-headers-clause-reads : goal.returns-in_err-headers-clause-reads
returns-in_err-headers-clause-reads g c = reads_reads _ _ _ c.check_digests.ensures.reads c.check_packages.ensures.reads
