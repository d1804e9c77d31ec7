use Rattle.std.proofs.Common.{◌≡◌, ◌≤◌, ◌-◌, ◌++◌, List, ℕ, Some, take, length}
use Rattle.flash_pages.specs.Board.{UsesLine}
use Rattle.kept_core.proofs.session.receive_all.Given as goal

abbrev pub invariant-loop-at : goal.invariant-loop-at
invariant-loop-at g l = record {
  within : l.at ≤ length l.into;
  left : (bytes : List ℕ) → (g.B.Board.view l.fn.board).left ≡ Some bytes → (new : List ℕ) × ((g.B.Board.view l.board).left ≡ Some new) × (bytes ≡ take l.at l.into ++ new);
  state : (g.B.Board.view l.board).state ≡ (g.B.Board.view l.fn.board).state;
  line : UsesLine (λ s x. x ≡ s) (g.B.Board.view l.fn.board) (g.B.Board.view l.board);
  fault : (g.B.Board.view l.board).line_faults ≡ (g.B.Board.view l.fn.board).line_faults;
}

abbrev pub decreases-loop-at : goal.decreases-loop-at
decreases-loop-at g l = length l.into - l.at
