use Rattle.std.proofs.Common.{◌≡◌}
use Rattle.flash_pages.specs.Board.{Reads}
use Rattle.component_store.specs.Reader.{Keeps}
use Rattle.component_store.specs.Sets.{HoldsSet}
use Rattle.flash_pages.specs.Board.{Told}
use Rattle.symbol_merge.specs.Stored.{set_in}
use Rattle.reloc_table.specs.Order.{rest_of, IsWithin, steps_left}
use Rattle.reloc_table.proofs.order.Cursor.next.Given as goal

abbrev pub invariant-loop-self : goal.invariant-loop-self
invariant-loop-self g l = record {
  within : IsWithin l.set l.self;
  reads : Reads (g.B.Board.view l.initial.board) (g.B.Board.view l.board);
  fault : (g.B.Board.view l.board).flash_faults ≡ (g.B.Board.view l.initial.board).flash_faults;
  keeps : Told (g.B.Board.view l.initial.board) (λ s. Keeps s l.initial.self.table → HoldsSet s l.set → Keeps s l.self.table);
  rest : Told (g.B.Board.view l.initial.board) (λ s. Keeps s l.initial.self.table → HoldsSet s l.set → rest_of (set_in s l.set) l.initial.self ≡ rest_of (set_in s l.set) l.self);
}

abbrev pub decreases-loop-self : goal.decreases-loop-self
decreases-loop-self g l = steps_left l.self
