use Rattle.std.proofs.Common.{◌≡◌, ◌-◌, List, ℕ, Some, length}
use Rattle.flash_pages.specs.State.{State}
use Rattle.component_package.specs.mote.Frames.{Frame}
use Rattle.kept_definitions.specs.Machine.{Mote}
use Rattle.kept_core.specs.Reading.{served_of}
use Rattle.kept_sessions.specs.Turns.{IsSession}
use Rattle.kept_journal.specs.Steps.{Stands}
use Rattle.kept_core.specs.Serving.{StaysFormatted}
use Rattle.kept_core.proofs.Readings.{IsReading}
use Rattle.kept_core.proofs.run.run_session.Given as goal

abbrev pub invariant-loop-status : goal.invariant-loop-status
invariant-loop-status g l = record {
  line : (g.B.Board.view l.board).line_faults ≡ (g.B.Board.view l.fn.board).line_faults;
  flash : (g.B.Board.view l.board).flash_faults ≡ (g.B.Board.view l.fn.board).flash_faults;
  sessions : (s : Mote) (e : State) (bytes : List ℕ) → (g.B.Board.view l.fn.board).state ≡ Some e → (g.B.Board.view l.fn.board).left ≡ Some bytes → Stands e s
      → (frames : List Frame) × (z : State) × (left : List ℕ) × (length frames ≡ served_of l.session)
      × IsSession s e bytes frames z left (g.B.Board.view l.fn.board) (g.B.Board.view l.board);
  stream : (bytes : List ℕ) → (g.B.Board.view l.fn.board).left ≡ Some bytes → (frames : List Frame) × (left : List ℕ) × (length frames ≡ served_of l.session) × IsReading bytes frames left (g.B.Board.view l.board);
  formatted : (s : State) → (g.B.Board.view l.fn.board).state ≡ Some s → StaysFormatted s (g.B.Board.view l.board);
}

abbrev pub decreases-loop-status : goal.decreases-loop-status
decreases-loop-status g l = 1000000 - served_of l.session
