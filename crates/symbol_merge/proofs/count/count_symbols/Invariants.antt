use Rattle.std.proofs.Common.{◌≡◌, Some}
use Rattle.flash_pages.specs.State.{State}
use Rattle.flash_pages.specs.Board.{Reads}
use Rattle.component_store.specs.Sets.{HoldsSet}
use Rattle.symbol_merge.specs.Stored.{set_in}
use Rattle.symbol_merge.specs.Walks.{IsWalkOf}
use Rattle.symbol_merge.proofs.Walked.{HasCounted}
use Rattle.symbol_merge.proofs.count.count_symbols.Given as goal

abbrev pub invariant-loop-count : goal.invariant-loop-count
invariant-loop-count g l = record {
  of : IsWalkOf l.set l.walk;
  counted : (s : State) → (g.B.Board.view l.fn.board).state ≡ Some s → HoldsSet s l.set → HasCounted (set_in s l.set) l.walk l.count;
  reads : Reads (g.B.Board.view l.fn.board) (g.B.Board.view l.board);
  fault : (g.B.Board.view l.board).flash_faults ≡ (g.B.Board.view l.fn.board).flash_faults;
}
