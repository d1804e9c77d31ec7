use Rattle.std.proofs.Common.{◌≡◌, List, Some}
use Rattle.flash_pages.specs.State.{State}
use Rattle.flash_pages.specs.Board.{Reads}
use Rattle.component_package.specs.packages.Component.{Component}
use Rattle.kept_store.specs.Sets.{HoldsSet}
use Rattle.kept_symbols.specs.Walks.{IsWalkOf}
use Rattle.kept_symbols.proofs.Walked.{HasCounted}
use Rattle.kept_symbols.proofs.count.count_symbols.Given as goal

abbrev pub invariant-loop-count : goal.invariant-loop-count
invariant-loop-count g l = record {
  of : IsWalkOf l.set l.walk;
  counted : (s : State) → (g.B.Board.view l.fn.board).state ≡ Some s → (components : List Component) → HoldsSet s l.set components → HasCounted components l.walk l.count;
  reads : Reads (g.B.Board.view l.fn.board) (g.B.Board.view l.board);
  fault : (g.B.Board.view l.board).flash_faults ≡ (g.B.Board.view l.fn.board).flash_faults;
}
