use Rattle.std.proofs.Common.{◌≡◌, ◌+◌, Some, length, take, slice_range}
use Rattle.flash_pages.specs.State.{State}
use Rattle.flash_pages.specs.Board.{Reads}
use Rattle.external_flash.specs.Readers.{Keeps}
use Rattle.component_package.specs.packages.Component.{Component}
use Rattle.kept_store.specs.Sets.{IsComponentOf}
use Rattle.kept_store.proofs.exports.exports_at.Given as goal

abbrev pub invariant-loop-j : goal.invariant-loop-j
invariant-loop-j g l = record {
  room : length l.into ≡ length l.fn.into;
  keeps : (s : State) → (g.B.Board.view l.fn.board).state ≡ Some s → Keeps s l.table;
  done : (s : State) → (g.B.Board.view l.fn.board).state ≡ Some s → (c : Component) → IsComponentOf s l.set l.k c → take l.j l.into ≡ slice_range c.exports l.i (l.i + l.j);
  reads : Reads (g.B.Board.view l.fn.board) (g.B.Board.view l.board);
  fault : (g.B.Board.view l.board).flash_faults ≡ (g.B.Board.view l.fn.board).flash_faults;
}
