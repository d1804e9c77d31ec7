use Rattle.std.proofs.Common.{◌≡◌, Some, length}
use Rattle.flash_pages.specs.State.{State}
use Rattle.flash_pages.specs.Board.{Reads}
use Rattle.component_store.specs.Sets.{HoldsSet}
use Rattle.symbol_merge.specs.Stored.{set_in}
use Rattle.symbol_merge.specs.Walks.{AreOf, Stand}
use Rattle.symbol_merge.proofs.walk.Walk.start.Given as goal

abbrev pub invariant-loop-k : goal.invariant-loop-k
invariant-loop-k g l = record {
  room : length l.cursors ≡ 16;
  of : AreOf l.set l.cursors l.k;
  stand : (s : State) → (g.B.Board.view l.fn.board).state ≡ Some s → HoldsSet s l.set → Stand (set_in s l.set) 0 l.cursors l.k;
  reads : Reads (g.B.Board.view l.fn.board) (g.B.Board.view l.board);
  fault : (g.B.Board.view l.board).flash_faults ≡ (g.B.Board.view l.fn.board).flash_faults;
}
