use Rattle.std.proofs.Common.{◌≡◌, [], Err, refl, ◌∙◌, subst}
use Rattle.component_package.specs.mote.Lines.{line_of}
use Rattle.kept_journal.specs.Steps.{parts}
use Rattle.kept_journal.specs.Standing.{AnswersFor}
use Rattle.kept_core.specs.Commands.{SendsAll}
use Rattle.kept_core.specs.declared.status.Status.TheVariants.{Ended, LineFault}
use Rattle.kept_core.proofs.Images.{sends_after_read, sends_not, sends_piece, flash_same, flash_not_done, line_not_done, unformatted_not_done, tells_formatted, tells_unformatted, tells_fault}
use Rattle.kept_core.proofs.reports.send_status.Goals as goal

pub returns-in-Err-Fault-clause-sends : goal.returns-in-Err-Fault-clause-sends
returns-in-Err-Fault-clause-sends g c = λ s told t stands. sends_not _ _ s _ _ flash_not_done (sends_after_read _ _ _ s told c.read_state.ensures.reads)

pub returns-in-Err-Fault-clause-keeps : goal.returns-in-Err-Fault-clause-keeps
returns-in-Err-Fault-clause-keeps g c = λ s told. flash_same [] s _ _ (sends_after_read [] _ _ s told c.read_state.ensures.reads)

pub returns-in-Err-Fault-clause-unformatted : goal.returns-in-Err-Fault-clause-unformatted
returns-in-Err-Fault-clause-unformatted g c = λ s told. tells_fault s _

pub returns-in-Err-Unformatted-clause-sends : goal.returns-in-Err-Unformatted-clause-sends
returns-in-Err-Unformatted-clause-sends g c = λ s told t stands. sends_not _ _ s _ _ unformatted_not_done (sends_after_read _ _ _ s told c.read_state.ensures.reads)

pub returns-in-Err-Unformatted-clause-keeps : goal.returns-in-Err-Unformatted-clause-keeps
returns-in-Err-Unformatted-clause-keeps g c = λ s told. flash_same [] s _ _ (sends_after_read [] _ _ s told c.read_state.ensures.reads)

pub returns-in-Err-Unformatted-clause-unformatted : goal.returns-in-Err-Unformatted-clause-unformatted
returns-in-Err-Unformatted-clause-unformatted g c = λ s told.
    tells_unformatted s _ _ told c.read_state.ensures.reads (subst (λ e. AnswersFor (Err e) (parts s)) c.in-Err-Unformatted.field-0-is (c.in-Err-Unformatted.ensures.answer s told))

pub returns-in_default-clause-sends : goal.returns-in_default-clause-sends
returns-in_default-clause-sends g c = λ s told t stands.
    let sent = c.send_line.ensures.sent s (c.read_state.ensures.reads.state ∙ told) in
    subst (λ a. SendsAll (line_of a) (LineFault ≡ Ended) s (g.B.Board.view c.args.board.now) (g.B.Board.view c.send_line.new.board)) (c.status_of.ensures.answer t (c.in-Ok.ensures.mote s told t stands))
    (sends_piece (line_of c.status_of.result) _ (g.B.Board.view c.read_state.new.board) _ s sent.1 sent.0 (LineFault ≡ Ended) told c.read_state.ensures.reads c.send_line.ensures.line sent.2 sent.3 (λ same. absurd (line_not_done same)))

pub returns-in_default-clause-keeps : goal.returns-in_default-clause-keeps
returns-in_default-clause-keeps g c = λ s told.
    let sent = c.send_line.ensures.sent s (c.read_state.ensures.reads.state ∙ told) in
    flash_same (line_of c.status_of.result) s _ _
    (sends_piece (line_of c.status_of.result) (g.B.Board.view c.args.board.now) (g.B.Board.view c.read_state.new.board) (g.B.Board.view c.send_line.new.board) s sent.1 sent.0 (LineFault ≡ Ended) told c.read_state.ensures.reads c.send_line.ensures.line sent.2 sent.3 (λ same. absurd (line_not_done same))).each

pub returns-in_default-clause-unformatted : goal.returns-in_default-clause-unformatted
returns-in_default-clause-unformatted g c = λ s told. tells_formatted LineFault s _ c.in-Ok.standing (c.in-Ok.ensures.answer s told) refl

pub returns-clause-sends : goal.returns-clause-sends
returns-clause-sends g c = λ s told t stands.
    let sent = c.in-Ok-send_line.ensures.sent s (c.read_state.ensures.reads.state ∙ told) in
    subst (λ a. SendsAll (line_of a) (Ended ≡ Ended) s (g.B.Board.view c.args.board.now) (g.B.Board.view c.send_line.new.board)) (c.status_of.ensures.answer t (c.in-Ok.ensures.mote s told t stands))
    (sends_piece (line_of c.status_of.result) _ (g.B.Board.view c.read_state.new.board) _ s sent.1 sent.0 (Ended ≡ Ended) told c.read_state.ensures.reads c.send_line.ensures.line sent.2 sent.3 (λ same. sent.4))

pub returns-clause-keeps : goal.returns-clause-keeps
returns-clause-keeps g c = λ s told.
    let sent = c.in-Ok-send_line.ensures.sent s (c.read_state.ensures.reads.state ∙ told) in
    flash_same (line_of c.status_of.result) s _ _
    (sends_piece (line_of c.status_of.result) (g.B.Board.view c.args.board.now) (g.B.Board.view c.read_state.new.board) (g.B.Board.view c.send_line.new.board) s sent.1 sent.0 (Ended ≡ Ended) told c.read_state.ensures.reads c.send_line.ensures.line sent.2 sent.3 (λ same. sent.4)).each

pub returns-clause-unformatted : goal.returns-clause-unformatted
returns-clause-unformatted g c = λ s told. tells_formatted Ended s _ c.in-Ok.standing (c.in-Ok.ensures.answer s told) refl
