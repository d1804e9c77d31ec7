use Rattle.std.proofs.Common.{Err, refl, sym, ◌∙◌, subst, arith, inr, true, false}
use Rattle.component_package.specs.declared.answer.Answer.TheVariants.{BadFrame}
use Rattle.component_package.specs.mote.Machine.{boot_frame}
use Rattle.kept_laws.proofs.Standing.{sound_parts_tell}
use Rattle.kept_journal.specs.declared.standing.JournalFault.{JournalFault}
use Rattle.kept_journal.specs.Steps.{parts}
use Rattle.kept_journal.specs.Standing.{AnswersFor}
use Rattle.kept_sessions.specs.Turns.{programs_of}
use Rattle.kept_core.specs.Reading.{frame_of}
use Rattle.kept_core.proofs.FrameKinds.{bad_row, bare, same_frame}
use Rattle.kept_core.proofs.Works.{idle, only_read, weaker_read, served_so}
use Rattle.kept_core.proofs.Dispatch.{boot_works_too, boot_does_too}
use Rattle.kept_core.proofs.Wears.{idle_starts, idle_reads, idle_wears, read_wears, work_wears}
use Rattle.kept_core.proofs.Formats.{stays_here, bad_no_end, no_end, standing_formatted}
use Rattle.std.proofs.lemmas.Bool.{false≢true}
use Rattle.kept_core.proofs.serving.serve_one.Goals as goal

pub returns-then-is_bad_frame-clause-works : goal.returns-then-is_bad_frame-clause-works
returns-then-is_bad_frame-clause-works g c z t told stands =
    idle t (frame_of c.args.kind c.args.payload.now) z (programs_of (frame_of c.args.kind c.args.payload.now)) (g.B.Board.view c.args.board.now) told stands

pub returns-then-is_bad_frame-clause-answer : goal.returns-then-is_bad_frame-clause-answer
returns-then-is_bad_frame-clause-answer g c z t told stands =
    served_so t (frame_of c.args.kind c.args.payload.now) (BadFrame c.args.kind) z (g.B.Board.view c.args.board.now) told stands (bad_row t (frame_of c.args.kind c.args.payload.now) (sym c.is_bad_frame.ensures ∙ c.if-is_bad_frame.true))

pub returns-in_default-clause-works : goal.returns-in_default-clause-works
returns-in_default-clause-works g c z t told stands =
    boot_works_too (frame_of c.args.kind c.args.payload.now) (same_frame c.args.kind 5 c.args.payload.now c.if-kind-eq-BOOT.true (bare c.args.kind c.args.payload.now (sym c.is_bad_frame.ensures ∙ c.if-is_bad_frame.false) (omega (arith, c.if-kind-eq-BOOT.true)))) (g.B.Board.view c.args.board.now) (g.B.Board.view c.serve_boot.new.board) c.serve_boot.ensures.works z t told stands

pub returns-then-kind-eq-BOOT-clause-works : goal.returns-then-kind-eq-BOOT-clause-works
returns-then-kind-eq-BOOT-clause-works g c z t told stands =
    boot_works_too (frame_of c.args.kind c.args.payload.now) (same_frame c.args.kind 5 c.args.payload.now c.if-kind-eq-BOOT.true (bare c.args.kind c.args.payload.now (sym c.is_bad_frame.ensures ∙ c.if-is_bad_frame.false) (omega (arith, c.if-kind-eq-BOOT.true)))) (g.B.Board.view c.args.board.now) (g.B.Board.view c.serve_boot.new.board) c.serve_boot.ensures.works z t told stands

pub returns-then-kind-eq-BOOT-clause-answer : goal.returns-then-kind-eq-BOOT-clause-answer
returns-then-kind-eq-BOOT-clause-answer g c z t told stands =
    boot_does_too (frame_of c.args.kind c.args.payload.now) (same_frame c.args.kind 5 c.args.payload.now c.if-kind-eq-BOOT.true (bare c.args.kind c.args.payload.now (sym c.is_bad_frame.ensures ∙ c.if-is_bad_frame.false) (omega (arith, c.if-kind-eq-BOOT.true)))) (g.B.Board.view c.args.board.now) (g.B.Board.view c.serve_boot.new.board) c.in-Ok.answer c.in-Ok.ensures.does z t told stands

pub returns-in-Err-Unformatted-clause-works : goal.returns-in-Err-Unformatted-clause-works
returns-in-Err-Unformatted-clause-works g c z t told stands =
    only_read t (frame_of c.args.kind c.args.payload.now) z (programs_of (frame_of c.args.kind c.args.payload.now)) (g.B.Board.view c.args.board.now) (g.B.Board.view c.read_state.new.board) told stands c.read_state.ensures.reads

pub returns-in-Err-Unformatted-clause-answer : goal.returns-in-Err-Unformatted-clause-answer
returns-in-Err-Unformatted-clause-answer g c z t told stands =
    absurd (sound_parts_tell.formatted (parts z) stands.sound (subst (λ (e : JournalFault). AnswersFor (Err e) (parts z)) c.in-Err-Unformatted.field-0-is (c.in-Err-Unformatted.ensures.answer z told)))

pub returns-in-Err-Fault-clause-works : goal.returns-in-Err-Fault-clause-works
returns-in-Err-Fault-clause-works g c z t told stands =
    only_read t (frame_of c.args.kind c.args.payload.now) z (programs_of (frame_of c.args.kind c.args.payload.now)) (g.B.Board.view c.args.board.now) (g.B.Board.view c.read_state.new.board) told stands c.read_state.ensures.reads

pub returns-in_default-serve_known-clause-works : goal.returns-in_default-serve_known-clause-works
returns-in_default-serve_known-clause-works g c z t told stands =
    let told_read = c.read_state.ensures.reads.state ∙ told in
    weaker_read t (frame_of c.args.kind c.args.payload.now) z (programs_of (frame_of c.args.kind c.args.payload.now)) (programs_of (frame_of c.args.kind c.args.payload.now)) (g.B.Board.view c.args.board.now) (g.B.Board.view c.read_state.new.board) (g.B.Board.view c.serve_known.new.board) told stands c.read_state.ensures.reads (omega arith)
    (c.serve_known.ensures.works z t told_read stands (c.in-Ok-read_state.ensures.mote z told t stands) (c.in-Ok-read_state.ensures.answer z told))

pub returns-clause-works : goal.returns-clause-works
returns-clause-works g c z t told stands =
    let told_read = c.read_state.ensures.reads.state ∙ told in
    weaker_read t (frame_of c.args.kind c.args.payload.now) z (programs_of (frame_of c.args.kind c.args.payload.now)) (programs_of (frame_of c.args.kind c.args.payload.now)) (g.B.Board.view c.args.board.now) (g.B.Board.view c.read_state.new.board) (g.B.Board.view c.serve_known.new.board) told stands c.read_state.ensures.reads (omega arith)
    (c.serve_known.ensures.works z t told_read stands (c.in-Ok-read_state.ensures.mote z told t stands) (c.in-Ok-read_state.ensures.answer z told))

pub returns-clause-answer : goal.returns-clause-answer
returns-clause-answer g c z t told stands =
    let told_read = c.read_state.ensures.reads.state ∙ told in
    c.in-Ok-serve_known.ensures.does z t told_read stands (c.in-Ok-read_state.ensures.mote z told t stands) (c.in-Ok-read_state.ensures.answer z told)

pub returns-then-is_bad_frame-clause-wear : goal.returns-then-is_bad_frame-clause-wear
returns-then-is_bad_frame-clause-wear g c z t told stands = idle_wears t (frame_of c.args.kind c.args.payload.now) true z (g.B.Board.view c.args.board.now) (g.B.Board.view c.args.board.now) (idle_starts (g.B.Board.view c.args.board.now))

pub returns-then-is_bad_frame-clause-unformatted : goal.returns-then-is_bad_frame-clause-unformatted
returns-then-is_bad_frame-clause-unformatted g c z told = record {
  only = λ is. absurd (let q : ⊥ = cc in q);
  always = λ good none. absurd (false≢true (sym good ∙ (sym c.is_bad_frame.ensures ∙ c.if-is_bad_frame.true)));
  stays = stays_here z (g.B.Board.view c.args.board.now) told;
}

pub returns-then-is_bad_frame-clause-ended : goal.returns-then-is_bad_frame-clause-ended
returns-then-is_bad_frame-clause-ended g c = record { only = λ is. absurd (let q : ⊥ = cc in q); always = λ ends. absurd (bad_no_end (frame_of c.args.kind c.args.payload.now) (sym c.is_bad_frame.ensures ∙ c.if-is_bad_frame.true) ends) }

pub returns-in_default-clause-wear : goal.returns-in_default-clause-wear
returns-in_default-clause-wear g c = work_wears false (frame_of c.args.kind c.args.payload.now) boot_frame (same_frame c.args.kind 5 c.args.payload.now c.if-kind-eq-BOOT.true (bare c.args.kind c.args.payload.now (sym c.is_bad_frame.ensures ∙ c.if-is_bad_frame.false) (omega (arith, c.if-kind-eq-BOOT.true)))) (g.B.Board.view c.args.board.now) (g.B.Board.view c.serve_boot.new.board) c.in_default.ensures.wear

pub returns-then-kind-eq-BOOT-clause-wear : goal.returns-then-kind-eq-BOOT-clause-wear
returns-then-kind-eq-BOOT-clause-wear g c = work_wears true (frame_of c.args.kind c.args.payload.now) boot_frame (same_frame c.args.kind 5 c.args.payload.now c.if-kind-eq-BOOT.true (bare c.args.kind c.args.payload.now (sym c.is_bad_frame.ensures ∙ c.if-is_bad_frame.false) (omega (arith, c.if-kind-eq-BOOT.true)))) (g.B.Board.view c.args.board.now) (g.B.Board.view c.serve_boot.new.board) c.in-Ok.ensures.wear

pub returns-then-kind-eq-BOOT-clause-unformatted : goal.returns-then-kind-eq-BOOT-clause-unformatted
returns-then-kind-eq-BOOT-clause-unformatted g c z told = record {
  only = λ is. ((sym c.is_bad_frame.ensures ∙ c.if-is_bad_frame.false), (c.in-Ok.ensures.formatted z told).0 is);
  always = λ good none. (c.in-Ok.ensures.formatted z told).1 none;
  stays = c.in-Ok.ensures.stays z told;
}

pub returns-then-kind-eq-BOOT-clause-ended : goal.returns-then-kind-eq-BOOT-clause-ended
returns-then-kind-eq-BOOT-clause-ended g c = record { only = λ is. absurd (c.in-Ok.ensures.other is); always = λ ends. absurd (no_end c.args.kind c.args.payload.now (λ e. omega (arith, e, c.if-kind-eq-BOOT.true)) ends) }

pub returns-in-Err-Unformatted-clause-wear : goal.returns-in-Err-Unformatted-clause-wear
returns-in-Err-Unformatted-clause-wear g c z t told stands = idle_wears t (frame_of c.args.kind c.args.payload.now) true z (g.B.Board.view c.args.board.now) (g.B.Board.view c.read_state.new.board) (idle_reads (g.B.Board.view c.args.board.now) (g.B.Board.view c.read_state.new.board) c.read_state.ensures.reads)

pub returns-in-Err-Unformatted-clause-unformatted : goal.returns-in-Err-Unformatted-clause-unformatted
returns-in-Err-Unformatted-clause-unformatted g c z told = record {
  only = λ is. ((sym c.is_bad_frame.ensures ∙ c.if-is_bad_frame.false), (subst (λ (e : JournalFault). AnswersFor (Err e) (parts z)) c.in-Err-Unformatted.field-0-is (c.in-Err-Unformatted.ensures.answer z told)));
  always = λ good none. refl;
  stays = stays_here z (g.B.Board.view c.read_state.new.board) (c.read_state.ensures.reads.state ∙ told);
}

pub returns-in-Err-Unformatted-clause-ended : goal.returns-in-Err-Unformatted-clause-ended
returns-in-Err-Unformatted-clause-ended g c = record { only = λ is. absurd (let q : ⊥ = cc in q); always = λ ends. inr refl }

pub returns-in-Err-Fault-clause-wear : goal.returns-in-Err-Fault-clause-wear
returns-in-Err-Fault-clause-wear g c z t told stands = idle_wears t (frame_of c.args.kind c.args.payload.now) false z (g.B.Board.view c.args.board.now) (g.B.Board.view c.read_state.new.board) (idle_reads (g.B.Board.view c.args.board.now) (g.B.Board.view c.read_state.new.board) c.read_state.ensures.reads)

pub returns-in_default-serve_known-clause-wear : goal.returns-in_default-serve_known-clause-wear
returns-in_default-serve_known-clause-wear g c z t told stands =
    let told_read = c.read_state.ensures.reads.state ∙ told in
    read_wears t (frame_of c.args.kind c.args.payload.now) false z (g.B.Board.view c.args.board.now) (g.B.Board.view c.read_state.new.board) (g.B.Board.view c.serve_known.new.board) c.read_state.ensures.reads (c.in_default-serve_known.ensures.wear z t told_read stands (c.in-Ok-read_state.ensures.mote z told t stands) (c.in-Ok-read_state.ensures.answer z told))

pub returns-clause-wear : goal.returns-clause-wear
returns-clause-wear g c z t told stands =
    let told_read = c.read_state.ensures.reads.state ∙ told in
    read_wears t (frame_of c.args.kind c.args.payload.now) true z (g.B.Board.view c.args.board.now) (g.B.Board.view c.read_state.new.board) (g.B.Board.view c.serve_known.new.board) c.read_state.ensures.reads (c.in-Ok-serve_known.ensures.wear z t told_read stands (c.in-Ok-read_state.ensures.mote z told t stands) (c.in-Ok-read_state.ensures.answer z told))

pub returns-clause-unformatted : goal.returns-clause-unformatted
returns-clause-unformatted g c z told =
    let told_read = c.read_state.ensures.reads.state ∙ told in
    let read = c.in-Ok-read_state.ensures.answer z told in
    record {
      only = λ is. absurd (c.in-Ok-serve_known.ensures.ended.1 is);
      always = λ good none. absurd (standing_formatted (parts z) c.in-Ok-read_state.standing read none);
      stays = c.in-Ok-serve_known.ensures.formatted z told_read read;
    }

pub returns-clause-ended : goal.returns-clause-ended
returns-clause-ended g c = c.in-Ok-serve_known.ensures.ended.0
