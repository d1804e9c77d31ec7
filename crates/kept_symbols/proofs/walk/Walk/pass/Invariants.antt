use Rattle.std.proofs.Common.{◌≡◌, ℕ, ◌+◌, ◌≤◌, List, Some, length}
use Rattle.flash_pages.specs.State.{State}
use Rattle.flash_pages.specs.Board.{Reads}
use Rattle.component_package.specs.packages.Component.{Component}
use Rattle.kept_store.specs.Sets.{HoldsSet}
use Rattle.component_package.specs.link.Sets as link
use Rattle.kept_symbols.specs.Walks.{cursor_in, AreOf, Stand, IsAt}
use Rattle.kept_symbols.proofs.walk.Walk.pass.Given as goal

abbrev pub invariant-loop-k : goal.invariant-loop-k
invariant-loop-k g l = record {
  count : l.self.count ≡ l.fn.self.count;
  room : length l.self.cursors ≡ 16;
  of : AreOf l.set l.self.cursors l.self.count;
  later : (j : ℕ) → l.k ≤ j → cursor_in l.self.cursors j ≡ cursor_in l.fn.self.cursors j;
  passed : (s : State) → (g.B.Board.view l.fn.board).state ≡ Some s → (components : List Component) → HoldsSet s l.set components → link.IsSet components → IsAt components l.symbol l.fn.self
      → Stand components (l.symbol + 1) l.self.cursors l.k;
  reads : Reads (g.B.Board.view l.fn.board) (g.B.Board.view l.board);
  fault : (g.B.Board.view l.board).flash_faults ≡ (g.B.Board.view l.fn.board).flash_faults;
}
