use Rattle.std.proofs.Common.{arith, ◌∙◌, ap}
use Rattle.std.specs.Prelude.{not}
use Rattle.kept_manifests.specs.Slots.{stored_of}
use Rattle.kept_journal.specs.Steps.{parts, Step, CanTake, manifest_pages}
use Rattle.kept_journal.proofs.Takes.{takes_more}
use Rattle.kept_journal.proofs.TakingIn.{four, four_read, nine, ten, is_taken_in}
use Rattle.kept_journal.proofs.manifest.put_manifest.Goals as goal

pub returns-in_err-abandon-clause-each : goal.returns-in_err-abandon-clause-each
returns-in_err-abandon-clause-each g c = λ s told.
    takes_more (Step (CanTake (stored_of c.args.m.now)) (manifest_pages (parts s)) s) (manifest_pages (parts s)) 4 10 _ _ (omega arith)
    (four _ _ s (stored_of c.args.m.now) told (c.abandon.ensures.each s told))

pub returns-in_err-on_b-clause-each : goal.returns-in_err-on_b-clause-each
returns-in_err-on_b-clause-each g c = λ s told.
    takes_more (Step (CanTake (stored_of c.args.m.now)) (manifest_pages (parts s)) s) (manifest_pages (parts s)) 4 10 _ _ (omega arith)
    (four_read _ _ s (stored_of c.args.m.now) told (c.abandon.ensures.each s told) _ c.is_on_b.ensures.reads)

pub returns-in_err-write_side-clause-each : goal.returns-in_err-write_side-clause-each
returns-in_err-write_side-clause-each g c = λ s told.
    let shut = c.in_ok-abandon.ensures.ok s told in
    takes_more (Step (CanTake (stored_of c.args.m.now)) (manifest_pages (parts s)) s) (manifest_pages (parts s)) 9 10 _ _ (omega arith)
    (nine _ _ s (stored_of c.args.m.now) told (c.abandon.ensures.each s told) _ c.is_on_b.ensures.reads _ _ shut (ap not (c.in_ok-on_b.ensures.answer shut.end shut.told))
    (c.write_side.ensures.each shut.end (c.is_on_b.ensures.reads.state ∙ shut.told)))

pub returns-in_err-open_gate-clause-each : goal.returns-in_err-open_gate-clause-each
returns-in_err-open_gate-clause-each g c = λ s told.
    let shut = c.in_ok-abandon.ensures.ok s told in
    let told_c = c.is_on_b.ensures.reads.state ∙ shut.told in
    ten _ _ s (stored_of c.args.m.now) told (c.abandon.ensures.each s told) _ c.is_on_b.ensures.reads _ _ shut (ap not (c.in_ok-on_b.ensures.answer shut.end shut.told))
    (c.write_side.ensures.each shut.end told_c) _ (c.in_ok-write_side.ensures.ok shut.end told_c) c.open_gate.ensures.programs

pub returns-clause-ok : goal.returns-clause-ok
returns-clause-ok g c = λ s told.
    let shut = c.in_ok-abandon.ensures.ok s told in
    let told_c = c.is_on_b.ensures.reads.state ∙ shut.told in
    let written = c.in_ok-write_side.ensures.ok shut.end told_c in
    is_taken_in _ _ s (stored_of c.args.m.now) told (c.abandon.ensures.each s told) _ c.is_on_b.ensures.reads _ _ shut (ap not (c.in_ok-on_b.ensures.answer shut.end shut.told))
    (c.write_side.ensures.each shut.end told_c) _ written c.open_gate.ensures.programs (c.in_ok-open_gate.ensures.ok written.end written.told)

pub returns-clause-each : goal.returns-clause-each
returns-clause-each g c = λ s told.
    let shut = c.in_ok-abandon.ensures.ok s told in
    let told_c = c.is_on_b.ensures.reads.state ∙ shut.told in
    ten _ _ s (stored_of c.args.m.now) told (c.abandon.ensures.each s told) _ c.is_on_b.ensures.reads _ _ shut (ap not (c.in_ok-on_b.ensures.answer shut.end shut.told))
    (c.write_side.ensures.each shut.end told_c) _ (c.in_ok-write_side.ensures.ok shut.end told_c) c.open_gate.ensures.programs
