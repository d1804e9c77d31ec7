use Rattle.std.proofs.Common.{◌≡◌, ◌*◌, ◌≤◌, List, Some}
use Rattle.flash_pages.specs.State.{State}
use Rattle.flash_pages.specs.Board.{UsesFlash}
use Rattle.flash_pages.specs.Moments.{LeavesOnly}
use Rattle.component_package.specs.packages.Component.{Component}
use Rattle.kept_store.specs.Sets.{HoldsSet}
use Rattle.kept_symbols.specs.Changes.{OnlySymbols}
use Rattle.kept_symbols.specs.Walks.{IsWalkOf}
use Rattle.kept_symbols.specs.Records.{HasMerged}
use Rattle.kept_symbols.proofs.Changed.{IsWornTo}
use Rattle.kept_symbols.proofs.merging.merge.Given as goal

abbrev pub invariant-loop-page : goal.invariant-loop-page
invariant-loop-page g l = record {
  of : IsWalkOf l.set l.walk;
  few : l.count ≤ 32 * l.page;
  run : (s : State) → (g.B.Board.view l.fn.board).state ≡ Some s → LeavesOnly (OnlySymbols s) l.page (g.B.Board.view l.fn.board) (g.B.Board.view l.board);
  worn : (s x : State) → (g.B.Board.view l.fn.board).state ≡ Some s → (g.B.Board.view l.board).state ≡ Some x → IsWornTo l.page s x (g.B.Board.view l.fn.board) (g.B.Board.view l.board);
  merged : (s x : State) → (g.B.Board.view l.fn.board).state ≡ Some s → (components : List Component) → HoldsSet s l.set components → (g.B.Board.view l.board).state ≡ Some x
      → HasMerged components l.page l.count l.walk x;
  uses : UsesFlash (g.B.Board.view l.fn.board) (g.B.Board.view l.board);
  fault : (g.B.Board.view l.board).flash_faults ≡ (g.B.Board.view l.fn.board).flash_faults;
}
