use Rattle.std.proofs.Common.{◌≡◌, ◌*◌, ◌≤◌, Some}
use Rattle.flash_pages.specs.State.{State}
use Rattle.flash_pages.specs.Board.{UsesFlash}
use Rattle.flash_pages.specs.Moments.{LeavesOnly}
use Rattle.component_store.specs.Sets.{HoldsSet}
use Rattle.symbol_merge.specs.Stored.{set_in}
use Rattle.symbol_merge.specs.Changes.{OnlySymbols}
use Rattle.symbol_merge.specs.Walks.{IsWalkOf}
use Rattle.symbol_merge.specs.Records.{HasMerged}
use Rattle.symbol_merge.proofs.Changed.{IsWornTo}
use Rattle.symbol_merge.proofs.merging.merge.Given as goal

abbrev pub invariant-loop-page : goal.invariant-loop-page
invariant-loop-page g l = record {
  of : IsWalkOf l.set l.walk;
  few : l.count ≤ 32 * l.page;
  run : (s : State) → (g.B.Board.view l.fn.board).state ≡ Some s → LeavesOnly (OnlySymbols s) l.page (g.B.Board.view l.fn.board) (g.B.Board.view l.board);
  worn : (s x : State) → (g.B.Board.view l.fn.board).state ≡ Some s → (g.B.Board.view l.board).state ≡ Some x → IsWornTo l.page s x (g.B.Board.view l.fn.board) (g.B.Board.view l.board);
  merged : (s x : State) → (g.B.Board.view l.fn.board).state ≡ Some s → HoldsSet s l.set → (g.B.Board.view l.board).state ≡ Some x → HasMerged (set_in s l.set) l.page l.count l.walk x;
  uses : UsesFlash (g.B.Board.view l.fn.board) (g.B.Board.view l.board);
  fault : (g.B.Board.view l.board).flash_faults ≡ (g.B.Board.view l.fn.board).flash_faults;
}
