use Rattle.std.proofs.Common.{◌≡◌, ◌-◌, ◌*◌, ◌≤◌, Some}
use Rattle.flash_pages.specs.State.{State}
use Rattle.drawn_releases.specs.Generator.{release_drawn}
use Rattle.rehearsal.specs.Lines.{OnlySends, HasLines}
use Rattle.rehearsal.proofs.run.rehearse.Given as goal

abbrev pub invariant-loop-release : goal.invariant-loop-release
invariant-loop-release g l = record {
  only : OnlySends (g.B.Board.view l.fn.board) (g.B.Board.view l.board);
  fault : (g.B.Board.view l.board).line_faults ≡ (g.B.Board.view l.fn.board).line_faults;
  some : 1 ≤ l.release;
  drawn : l.rehearsal.release ≡ release_drawn l.number (l.release - 1);
  lines : (s : State) → (g.B.Board.view l.fn.board).state ≡ Some s → HasLines l.number (2 * (l.release - 1)) s (g.B.Board.view l.board);
}
