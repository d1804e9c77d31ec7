use Rattle.std.proofs.Common.{◌≡◌, Some, None}
use Rattle.flash_pages.specs.State.{State}
use Rattle.flash_pages.specs.Board.{Reads}
use Rattle.component_package.specs.packages.Reading.{export_fault, symbol_before, first_fault}
use Rattle.component_store.specs.Reader.{IsUnder, held_package}
use Rattle.component_store.proofs.package.check_exports.Given as goal

-- no export so far has a fault, and the last one's symbol is kept
abbrev pub invariant-loop-i : goal.invariant-loop-i
invariant-loop-i g l = record {
  slot : l.table.slot ≡ l.fn.table.slot;
  under : (s : State) → (g.B.Board.view l.fn.board).state ≡ Some s → IsUnder s l.fn.table l.h → IsUnder s l.table l.h;
  none : (s : State) → (g.B.Board.view l.fn.board).state ≡ Some s → IsUnder s l.fn.table l.h → first_fault (export_fault (held_package s l.fn.table.slot l.h)) l.i ≡ None;
  before : (s : State) → (g.B.Board.view l.fn.board).state ≡ Some s → IsUnder s l.fn.table l.h → l.before ≡ symbol_before (held_package s l.fn.table.slot l.h) l.i;
  reads : Reads (g.B.Board.view l.fn.board) (g.B.Board.view l.board);
  fault : (g.B.Board.view l.board).flash_faults ≡ (g.B.Board.view l.fn.board).flash_faults;
}
