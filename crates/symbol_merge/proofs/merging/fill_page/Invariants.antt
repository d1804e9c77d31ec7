use Rattle.std.proofs.Common.{◌≡◌, ℕ, Some}
use Rattle.flash_pages.specs.State.{State}
use Rattle.flash_pages.specs.Board.{Reads}
use Rattle.component_store.specs.Sets.{HoldsSet}
use Rattle.symbol_merge.specs.Stored.{set_in, IsOwnSet}
use Rattle.symbol_merge.specs.Walks.{IsWalkOf, IsAt}
use Rattle.symbol_merge.proofs.Filled.{HasPut}
use Rattle.symbol_merge.proofs.merging.fill_page.Given as goal

abbrev pub invariant-loop-i : goal.invariant-loop-i
invariant-loop-i g l = record {
  of : IsWalkOf l.set l.walk;
  filled : (s : State) → (g.B.Board.view l.fn.board).state ≡ Some s → HoldsSet s l.set → IsOwnSet s l.set → (low : ℕ) → IsAt (set_in s l.set) low l.fn.walk
      → HasPut (set_in s l.set) low l.i l.page l.walk;
  reads : Reads (g.B.Board.view l.fn.board) (g.B.Board.view l.board);
  fault : (g.B.Board.view l.board).flash_faults ≡ (g.B.Board.view l.fn.board).flash_faults;
}
