use Rattle.std.proofs.Common.{◌≡◌, Some}
use Rattle.std.specs.List.{concat}
use Rattle.flash_pages.specs.Board.{Told}
use Rattle.flash_pages.specs.Moments.{LeavesOnly}
use Rattle.kept_core.specs.Commands.{SendsSome, image_pages}
use Rattle.kept_core.proofs.Images.{pages_sent}
use Rattle.kept_core.proofs.reports.send_pages.Given as goal

abbrev pub invariant-loop-page : goal.invariant-loop-page
invariant-loop-page g l = record {
  state : Told (g.B.Board.view l.fn.board) (λ s. (g.B.Board.view l.board).state ≡ Some (pages_sent l.page (image_pages l.fn.staged s) s));
  each : Told (g.B.Board.view l.fn.board) (λ s. LeavesOnly (SendsSome (concat (image_pages l.fn.staged s)) s) 0 (g.B.Board.view l.fn.board) (g.B.Board.view l.board));
  left : (g.B.Board.view l.board).left ≡ (g.B.Board.view l.fn.board).left;
  flash : (g.B.Board.view l.board).flash_faults ≡ (g.B.Board.view l.fn.board).flash_faults;
  line : (g.B.Board.view l.board).line_faults ≡ (g.B.Board.view l.fn.board).line_faults;
}
