use Rattle.std.proofs.Common.{◌≡◌, Some}
use Rattle.flash_pages.specs.Board.{Told, UsesFlash}
use Rattle.kept_store.proofs.TableLemmas.{wrote}
use Rattle.kept_store.proofs.TableRuns.{Fills}
use Rattle.kept_store.proofs.tables.keep_run.Given as goal

abbrev pub invariant-loop-page : goal.invariant-loop-page
invariant-loop-page g l = record {
  state : Told (g.B.Board.view l.fn.board) (λ s. (g.B.Board.view l.board).state ≡ Some (wrote l.page l.slot s));
  fills : Told (g.B.Board.view l.fn.board) (λ s. Fills l.slot l.page s (g.B.Board.view l.fn.board) (g.B.Board.view l.board));
  uses : UsesFlash (g.B.Board.view l.fn.board) (g.B.Board.view l.board);
  fault : (g.B.Board.view l.board).flash_faults ≡ (g.B.Board.view l.fn.board).flash_faults;
}
