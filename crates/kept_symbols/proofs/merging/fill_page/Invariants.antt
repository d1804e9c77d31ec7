use Rattle.std.proofs.Common.{◌≡◌, ℕ, List, Some}
use Rattle.flash_pages.specs.State.{State}
use Rattle.flash_pages.specs.Board.{Reads}
use Rattle.component_package.specs.packages.Component.{Component}
use Rattle.kept_store.specs.Sets.{HoldsSet}
use Rattle.kept_symbols.specs.Stored.{IsOwnSet}
use Rattle.kept_symbols.specs.Walks.{IsWalkOf, IsAt}
use Rattle.kept_symbols.proofs.Filled.{HasPut}
use Rattle.kept_symbols.proofs.merging.fill_page.Given as goal

abbrev pub invariant-loop-i : goal.invariant-loop-i
invariant-loop-i g l = record {
  of : IsWalkOf l.set l.walk;
  filled : (s : State) → (g.B.Board.view l.fn.board).state ≡ Some s → (components : List Component) → HoldsSet s l.set components → IsOwnSet l.set components → (low : ℕ)
      → IsAt components low l.fn.walk → HasPut components low l.i l.page l.walk;
  reads : Reads (g.B.Board.view l.fn.board) (g.B.Board.view l.board);
  fault : (g.B.Board.view l.board).flash_faults ≡ (g.B.Board.view l.fn.board).flash_faults;
}
