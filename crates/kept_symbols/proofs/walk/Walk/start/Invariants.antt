use Rattle.std.proofs.Common.{◌≡◌, List, Some, length}
use Rattle.flash_pages.specs.State.{State}
use Rattle.flash_pages.specs.Board.{Reads}
use Rattle.component_package.specs.packages.Component.{Component}
use Rattle.kept_store.specs.Sets.{HoldsSet}
use Rattle.kept_symbols.specs.Walks.{AreOf, Stand}
use Rattle.kept_symbols.proofs.walk.Walk.start.Given as goal

abbrev pub invariant-loop-k : goal.invariant-loop-k
invariant-loop-k g l = record {
  room : length l.cursors ≡ 16;
  of : AreOf l.set l.cursors l.k;
  stand : (s : State) → (g.B.Board.view l.fn.board).state ≡ Some s → (components : List Component) → HoldsSet s l.set components → Stand components 0 l.cursors l.k;
  reads : Reads (g.B.Board.view l.fn.board) (g.B.Board.view l.board);
  fault : (g.B.Board.view l.board).flash_faults ≡ (g.B.Board.view l.fn.board).flash_faults;
}
