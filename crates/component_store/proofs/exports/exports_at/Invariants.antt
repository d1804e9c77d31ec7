use Rattle.std.proofs.Common.{◌≡◌, ◌+◌, Some, length, take, get_or, slice_range}
use Rattle.flash_pages.specs.State.{State}
use Rattle.flash_pages.specs.Board.{Reads}
use Rattle.component_package.specs.packages.Component.{Component}
use Rattle.component_store.specs.Reader.{IsUnder}
use Rattle.component_store.specs.Sets.{HoldsSet, IsComponentOf, header_at}
use Rattle.component_store.proofs.exports.exports_at.Given as goal

abbrev pub invariant-loop-j : goal.invariant-loop-j
invariant-loop-j g l = record {
  room : length l.into ≡ length l.fn.into;
  slot : l.table.slot ≡ get_or l.set.slots.slots l.k 0;
  under : (s : State) → (g.B.Board.view l.fn.board).state ≡ Some s → HoldsSet s l.set → (c : Component) → IsComponentOf s l.set l.k c → IsUnder s l.table (header_at l.set l.k);
  done : (s : State) → (g.B.Board.view l.fn.board).state ≡ Some s → HoldsSet s l.set → (c : Component) → IsComponentOf s l.set l.k c → take l.j l.into ≡ slice_range c.exports l.i (l.i + l.j);
  reads : Reads (g.B.Board.view l.fn.board) (g.B.Board.view l.board);
  fault : (g.B.Board.view l.board).flash_faults ≡ (g.B.Board.view l.fn.board).flash_faults;
}
