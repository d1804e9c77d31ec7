use Rattle.std.proofs.Common.{◌≡◌, Option, Err, None, refl, sym, ap₂, subst, ◌∙◌}
use Rattle.std.specs.Option.{option_or}
use Rattle.std.proofs.lemmas.Result.{err_from_is_err_and}
use Rattle.flash_pages.proofs.Runs.{reads_reads}
use Rattle.component_package.specs.packages.Reading.{first_fault}
use Rattle.component_package.specs.mote.Store.{SetFault}
use Rattle.component_store.specs.declared.set.SetFault as sets
use Rattle.component_store.specs.Sets.{SetFaultIs}
use Rattle.component_store.proofs.OpenLemmas.{refused, refused_later}
use Rattle.kept_definitions.specs.Kept.{inbox_of, set_fault, missing_at, bad_package_at}
use Rattle.kept_manifests.specs.Slots.{stored_of}
use Rattle.kept_store.specs.declared.set.StoredSet.{StoredSet}
use Rattle.kept_store.proofs.OpenLemmas.{both_faults}
use Rattle.kept_store.proofs.ComingLemmas.{coming_held}
use Rattle.kept_store.proofs.open.open_set.Goals as goal

pub returns-in_err-check_digests-clause-answer : goal.returns-in_err-check_digests-clause-answer
returns-in_err-check_digests-clause-answer g c =
    let p = err_from_is_err_and c.from_residual.result c.from_residual.ensures.1 in
    let f : sets.SetFault = c.in_err-check_digests.field-0.0 in
    rw (p.1, p.2) (λ e none over s told.
    let m = c.args.m.now in
    subst (λ (o : Option SetFault). SetFaultIs {A = StoredSet} (Err f) o) (both_faults (inbox_of s.ext) m)
    (refused (Unit {0}) StoredSet f (first_fault (missing_at (inbox_of s.ext) (stored_of m)) m.manifest.count) (first_fault (bad_package_at (inbox_of s.ext) (stored_of m)) m.manifest.count) e
    (λ fine. c.in_err-check_digests.ensures.answer fine s told)))

pub returns-in_err-set-clause-answer : goal.returns-in_err-set-clause-answer
returns-in_err-set-clause-answer g c =
    let p = err_from_is_err_and c.from_residual-in_err-set.result c.from_residual-in_err-set.ensures.1 in
    let f : sets.SetFault = c.in_err-set.field-0.0 in
    rw (p.1, p.2) (λ e none over s told.
    let m = c.args.m.now in
    subst (λ (o : Option SetFault). SetFaultIs {A = StoredSet} (Err f) o) (both_faults (inbox_of s.ext) m)
    (refused_later StoredSet StoredSet f (first_fault (missing_at (inbox_of s.ext) (stored_of m)) m.manifest.count) (first_fault (bad_package_at (inbox_of s.ext) (stored_of m)) m.manifest.count)
    (c.in_ok-check_digests.ensures.answer refl s told) e (λ fine. c.in_err-set.ensures.answer fine none over s (c.check_digests.ensures.reads.state ∙ told))))

pub returns-in_err-set-clause-reads : goal.returns-in_err-set-clause-reads
returns-in_err-set-clause-reads g c = reads_reads _ _ _ c.check_digests.ensures.reads c.gather.ensures.reads

pub returns-clause-answer : goal.returns-clause-answer
returns-clause-answer g c = λ e none over s told.
    let m = c.args.m.now in
    sym (both_faults (inbox_of s.ext) m) ∙ ap₂ (λ (x y : Option SetFault). option_or x y) (c.in_ok-check_digests.ensures.answer refl s told) (c.in_ok-set.ensures.answer refl none over s (c.check_digests.ensures.reads.state ∙ told))

pub returns-clause-holds : goal.returns-clause-holds
returns-clause-holds g c = λ none over s told components holds.
    let m = c.args.m.now in
    let sizes = (g.B.Board.view c.args.board.now).sizes s told in
    let told_now = c.check_digests.ensures.reads.state ∙ told in
    let whole : set_fault (inbox_of s.ext) (stored_of m) ≡ None =
    sym (both_faults (inbox_of s.ext) m) ∙ ap₂ (λ (x y : Option SetFault). option_or x y) (c.in_ok-check_digests.ensures.answer refl s told) (c.in_ok-set.ensures.answer refl none over s told_now) in
    coming_held s sizes m c.requires.manifest c.args.current.now over components holds c.in_ok-set.set c.in_ok-set.ensures.slots (c.in_ok-set.ensures.parts s told_now) whole

pub returns-clause-reads : goal.returns-clause-reads
returns-clause-reads g c = reads_reads _ _ _ c.check_digests.ensures.reads c.gather.ensures.reads
