use Rattle.std.proofs.Common.{◌≡◌, Some}
use Rattle.flash_pages.specs.Board.{UsesFlash, Told}
use Rattle.kept_journal.specs.Steps.{parts, Step, Takes, Pends}
use Rattle.kept_boot.specs.Boots.{IsBehind, program_pages}
use Rattle.kept_boot.proofs.Copies.{copied_to}
use Rattle.kept_boot.proofs.Wear.{Worn}
use Rattle.kept_boot.proofs.copy_staged.Given as goal

abbrev pub invariant-loop-page : goal.invariant-loop-page
invariant-loop-page g l = record {
  state : Told (g.B.Board.view l.fn.board) (λ s. (g.B.Board.view l.board).state ≡ Some (copied_to l.page s));
  each : Told (g.B.Board.view l.fn.board) (λ s. Takes (Step Pends program_pages s) program_pages l.page (g.B.Board.view l.fn.board) (g.B.Board.view l.board));
  wear : Told (g.B.Board.view l.fn.board) (λ s. Worn l.page (IsBehind (parts s)) (g.B.Board.view l.fn.board) (g.B.Board.view l.board));
  uses : UsesFlash (g.B.Board.view l.fn.board) (g.B.Board.view l.board);
  fault : (g.B.Board.view l.board).flash_faults ≡ (g.B.Board.view l.fn.board).flash_faults;
}
