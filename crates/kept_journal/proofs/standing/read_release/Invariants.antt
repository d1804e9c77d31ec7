use Rattle.std.proofs.Common.{◌≡◌, take, length}
use Rattle.flash_pages.specs.Board.{Reads, Told}
use Rattle.component_package.specs.mote.Sides.{pages_from}
use Rattle.kept_journal.proofs.standing.read_release.Given as goal

abbrev pub invariant-loop-i : goal.invariant-loop-i
invariant-loop-i g l = record {
  size : length l.pages ≡ 5;
  pages : Told (g.B.Board.view l.fn.board) (λ s. take l.i l.pages ≡ take l.i (pages_from l.first 5 s.ext));
  reads : Reads (g.B.Board.view l.fn.board) (g.B.Board.view l.board);
  fault : (g.B.Board.view l.board).flash_faults ≡ (g.B.Board.view l.fn.board).flash_faults;
}
