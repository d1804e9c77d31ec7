use Rattle.std.proofs.Common.{◌≡◌, Some}
use Rattle.flash_pages.specs.Board.{UsesFlash, Told}
use Rattle.flash_pages.specs.Moments.{LeavesOnly}
use Rattle.kept_core.specs.Format.{blanked, OnlyProg}
use Rattle.kept_core.proofs.formatting.blank_prog.Given as goal

abbrev pub invariant-loop-page : goal.invariant-loop-page
invariant-loop-page g l = record {
  state : Told (g.B.Board.view l.fn.board) (λ s. (g.B.Board.view l.board).state ≡ Some (blanked l.page s));
  each : Told (g.B.Board.view l.fn.board) (λ s. LeavesOnly (OnlyProg s) l.page (g.B.Board.view l.fn.board) (g.B.Board.view l.board));
  uses : UsesFlash (g.B.Board.view l.fn.board) (g.B.Board.view l.board);
  fault : (g.B.Board.view l.board).flash_faults ≡ (g.B.Board.view l.fn.board).flash_faults;
}
