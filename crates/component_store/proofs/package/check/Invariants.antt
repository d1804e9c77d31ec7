use Rattle.std.proofs.Common.{◌≡◌, ◌*◌, Some, length, take}
use Rattle.flash_pages.specs.State.{State}
use Rattle.flash_pages.specs.Board.{Reads}
use Rattle.sha2.specs.Hashers.{Holds256}
use Rattle.component_package.specs.mote.Store.{slot_at}
use Rattle.component_store.specs.Reader.{Keeps}
use Rattle.component_store.proofs.package.check.Given as goal

abbrev pub invariant-loop-i : goal.invariant-loop-i
invariant-loop-i g l = record {
  room : length l.page ≡ 256;
  slot : l.reader.slot ≡ l.slot;
  keeps : (s : State) → (g.B.Board.view l.fn.board).state ≡ Some s → Keeps s l.reader;
  holds : (s : State) → (g.B.Board.view l.fn.board).state ≡ Some s → Holds256 l.hasher (take (256 * l.i) (slot_at s.ext l.slot));
  reads : Reads (g.B.Board.view l.fn.board) (g.B.Board.view l.board);
  fault : (g.B.Board.view l.board).flash_faults ≡ (g.B.Board.view l.fn.board).flash_faults;
}
