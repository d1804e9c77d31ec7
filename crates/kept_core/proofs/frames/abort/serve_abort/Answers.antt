use Rattle.std.proofs.Common.{sym, ◌∙◌, arith}
use Rattle.kept_core.specs.Frames.{abort_frame}
use Rattle.component_package.specs.declared.answer.Answer.TheVariants.{Reboot}
use Rattle.kept_core.proofs.Works.{idle, served_so}
use Rattle.kept_core.proofs.Rows.{standing_row, current_number}
use Rattle.kept_core.proofs.Commits.{abort_works, abort_does}
use Rattle.flash_pages.specs.State.{ext_pages}
use Rattle.kept_journal.specs.Steps.{parts, Step, any_mote, abandons, abandoned}
use Rattle.kept_core.proofs.Wears.{idle_starts, takes_idle, low_pages}
use Rattle.kept_core.proofs.Formats.{stays_here, stays_becomes}
use Rattle.kept_core.proofs.frames.abort.serve_abort.Goals as goal

pub returns-then-standing-clause-works : goal.returns-then-standing-clause-works
returns-then-standing-clause-works g c z t told stands is = idle t abort_frame z 4 _ told stands

pub returns-then-standing-clause-does : goal.returns-then-standing-clause-does
returns-then-standing-clause-does g c z t told stands is =
    served_so t abort_frame (Reboot c.args.standing.now.current.manifest.release) z (g.B.Board.view c.args.board.now) told stands (standing_row t _ _ (sym is.standing ∙ c.if-standing.true) (current_number t _ is))

pub returns-in_err-abandon-clause-works : goal.returns-in_err-abandon-clause-works
returns-in_err-abandon-clause-works g c z t told stands is = abort_works z t _ _ stands (c.abandon.ensures.each z told)

pub returns-clause-works : goal.returns-clause-works
returns-clause-works g c z t told stands is = abort_works z t _ _ stands (c.abandon.ensures.each z told)

pub returns-clause-does : goal.returns-clause-does
returns-clause-does g c z t told stands is = abort_does z t _ stands (sym is.standing ∙ c.if-standing.false) (c.in_ok-abandon.ensures.ok z told)

pub returns-then-standing-clause-idle : goal.returns-then-standing-clause-idle
returns-then-standing-clause-idle g c z told = idle_starts (g.B.Board.view c.args.board.now)

pub returns-then-standing-clause-formatted : goal.returns-then-standing-clause-formatted
returns-then-standing-clause-formatted g c z told = stays_here z (g.B.Board.view c.args.board.now) told

pub returns-in_err-abandon-clause-idle : goal.returns-in_err-abandon-clause-idle
returns-in_err-abandon-clause-idle g c z told = takes_idle (Step any_mote (ext_pages 1 4) z) (ext_pages 1 4) 4 (g.B.Board.view c.args.board.now) (g.B.Board.view c.abandon.new.board) (low_pages 1 4 (omega arith)) (c.abandon.ensures.each z told)

pub returns-clause-idle : goal.returns-clause-idle
returns-clause-idle g c z told = takes_idle (Step any_mote (ext_pages 1 4) z) (ext_pages 1 4) 4 (g.B.Board.view c.args.board.now) (g.B.Board.view c.abandon.new.board) (low_pages 1 4 (omega arith)) (c.abandon.ensures.each z told)

pub returns-clause-formatted : goal.returns-clause-formatted
returns-clause-formatted g c z told = stays_becomes (abandoned (parts z)) any_mote abandons z (g.B.Board.view c.abandon.new.board) (c.in_ok-abandon.ensures.ok z told) (λ none. none)
