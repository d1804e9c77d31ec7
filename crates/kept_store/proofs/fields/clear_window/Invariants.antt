use Rattle.std.proofs.Common.{◌≡◌, Some, length, take}
use Rattle.flash_pages.specs.State.{State, AreBytes}
use Rattle.flash_pages.specs.Board.{Reads}
use Rattle.external_flash.specs.Readers.{Keeps}
use Rattle.component_package.specs.packages.Component.{Component}
use Rattle.kept_code.specs.Clear.{cleared_from}
use Rattle.kept_store.specs.Sets.{IsComponentOf}
use Rattle.kept_store.proofs.fields.clear_window.Given as goal

abbrev pub invariant-loop-i : goal.invariant-loop-i
invariant-loop-i g l = record {
  room : length l.into ≡ length l.fn.into;
  keeps : (s : State) → (g.B.Board.view l.fn.board).state ≡ Some s → Keeps s l.table;
  cleared : (s : State) → (g.B.Board.view l.fn.board).state ≡ Some s → (c : Component) → IsComponentOf s l.set l.k c → AreBytes l.fn.into
      → l.into ≡ cleared_from l.from l.in_init (take l.i c.relocs) l.fn.into;
  reads : Reads (g.B.Board.view l.fn.board) (g.B.Board.view l.board);
  fault : (g.B.Board.view l.board).flash_faults ≡ (g.B.Board.view l.fn.board).flash_faults;
}
