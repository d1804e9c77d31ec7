use Rattle.std.proofs.Common.{◌≡◌, ◌≤◌, ◌-◌, Some, length, take, drop, get_or}
use Rattle.flash_pages.specs.State.{State}
use Rattle.flash_pages.specs.Board.{Reads}
use Rattle.component_package.specs.mote.Store.{slot_at}
use Rattle.component_store.specs.Reader.{Keeps}
use Rattle.component_store.proofs.parts.part_bytes.Given as goal

abbrev pub invariant-loop-at : goal.invariant-loop-at
invariant-loop-at g l = record {
  within : l.at ≤ length l.into;
  room : length l.into ≡ length l.fn.into;
  slot : l.reader.slot ≡ get_or l.set.slots.slots l.k 0;
  keeps : (s : State) → (g.B.Board.view l.fn.board).state ≡ Some s → Keeps s l.reader;
  bytes : (s : State) → (g.B.Board.view l.fn.board).state ≡ Some s → take l.at l.into ≡ take l.at (drop l.start (slot_at s.ext (get_or l.set.slots.slots l.k 0)));
  reads : Reads (g.B.Board.view l.fn.board) (g.B.Board.view l.board);
  fault : (g.B.Board.view l.board).flash_faults ≡ (g.B.Board.view l.fn.board).flash_faults;
}

abbrev pub decreases-loop-at : goal.decreases-loop-at
decreases-loop-at g l = length l.into - l.at
