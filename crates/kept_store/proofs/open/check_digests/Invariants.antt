use Rattle.std.proofs.Common.{◌≡◌, Some, None}
use Rattle.flash_pages.specs.State.{State}
use Rattle.flash_pages.specs.Board.{Reads}
use Rattle.component_package.specs.packages.Reading.{first_fault}
use Rattle.kept_definitions.specs.Kept.{inbox_of, missing_at}
use Rattle.kept_manifests.specs.Slots.{stored_of}
use Rattle.kept_store.proofs.open.check_digests.Given as goal

abbrev pub invariant-loop-k : goal.invariant-loop-k
invariant-loop-k g l = record {
  none : (s : State) → (g.B.Board.view l.fn.board).state ≡ Some s → first_fault (missing_at (inbox_of s.ext) (stored_of l.m)) l.k ≡ None;
  reads : Reads (g.B.Board.view l.fn.board) (g.B.Board.view l.board);
  fault : (g.B.Board.view l.board).flash_faults ≡ (g.B.Board.view l.fn.board).flash_faults;
}
