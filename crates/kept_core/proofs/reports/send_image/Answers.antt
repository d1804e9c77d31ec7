use Rattle.std.proofs.Common.{[], Err, refl, ◌∙◌, sym as flip, subst}
use Rattle.std.specs.List.{concat}
use Rattle.kept_definitions.specs.Sides.{is_pending}
use Rattle.kept_journal.specs.Steps.{parts}
use Rattle.kept_journal.specs.Standing.{AnswersFor}
use Rattle.kept_core.specs.Commands.{image_pages}
use Rattle.kept_core.proofs.Images.{sends_after_read, sends_not, sends_image, read_first, flash_same, flash_not_done, unformatted_not_done, tells_formatted, tells_unformatted, tells_fault}
use Rattle.kept_core.proofs.reports.send_image.Goals as goal

pub returns-in-Err-Fault-clause-sends : goal.returns-in-Err-Fault-clause-sends
returns-in-Err-Fault-clause-sends g c = λ s told t stands.
    sends_image s t (is_pending (parts s)) _ _ _ refl stands (sends_not _ _ s _ _ flash_not_done (sends_after_read (concat (image_pages (is_pending (parts s)) s)) _ _ s told c.read_state.ensures.reads))

pub returns-in-Err-Fault-clause-keeps : goal.returns-in-Err-Fault-clause-keeps
returns-in-Err-Fault-clause-keeps g c = λ s told. flash_same [] s _ _ (sends_after_read [] _ _ s told c.read_state.ensures.reads)

pub returns-in-Err-Fault-clause-unformatted : goal.returns-in-Err-Fault-clause-unformatted
returns-in-Err-Fault-clause-unformatted g c = λ s told. tells_fault s _

pub returns-in-Err-Unformatted-clause-sends : goal.returns-in-Err-Unformatted-clause-sends
returns-in-Err-Unformatted-clause-sends g c = λ s told t stands.
    sends_image s t (is_pending (parts s)) _ _ _ refl stands (sends_not _ _ s _ _ unformatted_not_done (sends_after_read (concat (image_pages (is_pending (parts s)) s)) _ _ s told c.read_state.ensures.reads))

pub returns-in-Err-Unformatted-clause-keeps : goal.returns-in-Err-Unformatted-clause-keeps
returns-in-Err-Unformatted-clause-keeps g c = λ s told. flash_same [] s _ _ (sends_after_read [] _ _ s told c.read_state.ensures.reads)

pub returns-in-Err-Unformatted-clause-unformatted : goal.returns-in-Err-Unformatted-clause-unformatted
returns-in-Err-Unformatted-clause-unformatted g c = λ s told.
    tells_unformatted s _ _ told c.read_state.ensures.reads (subst (λ e. AnswersFor (Err e) (parts s)) c.in-Err-Unformatted.field-0-is (c.in-Err-Unformatted.ensures.answer s told))

pub returns-clause-sends : goal.returns-clause-sends
returns-clause-sends g c = λ s told t stands.
    sends_image s t c.in-Ok.standing.pending _ _ _ (flip (c.in-Ok.ensures.answer s told).pending) stands
    (read_first _ _ s _ (g.B.Board.view c.read_state.new.board) _ told c.read_state.ensures.reads (c.send_pages.ensures.sends s (c.read_state.ensures.reads.state ∙ told)))

pub returns-clause-keeps : goal.returns-clause-keeps
returns-clause-keeps g c = λ s told.
    flash_same _ s _ _ (read_first _ _ s _ (g.B.Board.view c.read_state.new.board) _ told c.read_state.ensures.reads (c.send_pages.ensures.sends s (c.read_state.ensures.reads.state ∙ told))).each

pub returns-clause-unformatted : goal.returns-clause-unformatted
returns-clause-unformatted g c = λ s told. tells_formatted _ s _ c.in-Ok.standing (c.in-Ok.ensures.answer s told) c.send_pages.ensures.ends
