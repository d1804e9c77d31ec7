use Rattle.std.proofs.Common.{◌≡◌, ◌≤◌, ◌-◌, Some, take, length}
use Rattle.flash_pages.specs.State.{State, SendsPart, with_sent}
use Rattle.flash_pages.specs.Board.{UsesLine}
use Rattle.kept_core.proofs.sending.send_all.Given as goal

abbrev pub invariant-loop-at : goal.invariant-loop-at
invariant-loop-at g l = record {
  within : l.at ≤ length l.from;
  state : (s : State) → (g.B.Board.view l.fn.board).state ≡ Some s → (g.B.Board.view l.board).state ≡ Some (with_sent s (take l.at l.from));
  left : (g.B.Board.view l.board).left ≡ (g.B.Board.view l.fn.board).left;
  line : UsesLine (SendsPart l.from) (g.B.Board.view l.fn.board) (g.B.Board.view l.board);
  fault : (g.B.Board.view l.board).line_faults ≡ (g.B.Board.view l.fn.board).line_faults;
}

abbrev pub decreases-loop-at : goal.decreases-loop-at
decreases-loop-at g l = length l.from - l.at
