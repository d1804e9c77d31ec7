use Rattle.std.proofs.Common.{◌≡◌, List}
use Rattle.flash_pages.specs.Board.{Reads, Told}
use Rattle.external_flash.specs.Readers.{Keeps}
use Rattle.component_package.specs.packages.Component.{Component}
use Rattle.kept_store.specs.Sets.{HoldsSet}
use Rattle.kept_relocs.specs.Order.{rest_of, IsWithin, steps_left}
use Rattle.kept_relocs.proofs.order.Cursor.next.Given as goal

abbrev pub invariant-loop-self : goal.invariant-loop-self
invariant-loop-self g l = record {
  within : IsWithin l.set l.self;
  reads : Reads (g.B.Board.view l.initial.board) (g.B.Board.view l.board);
  fault : (g.B.Board.view l.board).flash_faults ≡ (g.B.Board.view l.initial.board).flash_faults;
  keeps : Told (g.B.Board.view l.initial.board) (λ s. Keeps s l.initial.table → Keeps s l.table);
  rest : Told (g.B.Board.view l.initial.board) (λ s. Keeps s l.initial.table → (components : List Component) → HoldsSet s l.set components →
      rest_of components l.initial.self ≡ rest_of components l.self);
}

abbrev pub decreases-loop-self : goal.decreases-loop-self
decreases-loop-self g l = steps_left l.self
