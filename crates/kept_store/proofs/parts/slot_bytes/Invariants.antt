use Rattle.std.proofs.Common.{◌≡◌, ◌≤◌, ◌-◌, Some, length, take, drop}
use Rattle.flash_pages.specs.State.{State}
use Rattle.flash_pages.specs.Board.{Reads}
use Rattle.external_flash.specs.Areas.{bytes_from}
use Rattle.external_flash.specs.Readers.{Keeps}
use Rattle.kept_store.proofs.parts.slot_bytes.Given as goal

abbrev pub invariant-loop-at : goal.invariant-loop-at
invariant-loop-at g l = record {
  within : l.at ≤ length l.into;
  room : length l.into ≡ length l.fn.into;
  keeps : (s : State) → (g.B.Board.view l.fn.board).state ≡ Some s → Keeps s l.reader;
  bytes : (s : State) → (g.B.Board.view l.fn.board).state ≡ Some s → take l.at l.into ≡ take l.at (drop l.from (bytes_from l.first s));
  reads : Reads (g.B.Board.view l.fn.board) (g.B.Board.view l.board);
  fault : (g.B.Board.view l.board).flash_faults ≡ (g.B.Board.view l.fn.board).flash_faults;
}

abbrev pub decreases-loop-at : goal.decreases-loop-at
decreases-loop-at g l = length l.into - l.at
