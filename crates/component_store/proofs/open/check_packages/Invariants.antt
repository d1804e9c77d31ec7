use Rattle.std.proofs.Common.{◌≡◌, Some, None, length}
use Rattle.flash_pages.specs.State.{State}
use Rattle.flash_pages.specs.Board.{Reads}
use Rattle.component_package.specs.packages.Reading.{first_fault}
use Rattle.component_package.specs.packages.Manifest.{stored_of}
use Rattle.component_package.specs.mote.Store.{slots_of, bad_package_at}
use Rattle.component_store.specs.Sets.{AreHeaders, HasHeaders}
use Rattle.component_store.proofs.open.check_packages.Given as goal

abbrev pub invariant-loop-k : goal.invariant-loop-k
invariant-loop-k g l = record {
  room : length l.headers ≡ 16;
  none : (s : State) → (g.B.Board.view l.fn.board).state ≡ Some s → first_fault (bad_package_at (slots_of s.ext) (stored_of l.m)) l.k ≡ None;
  headers : (s : State) → (g.B.Board.view l.fn.board).state ≡ Some s → HasHeaders (slots_of s.ext) (stored_of l.m) l.k l.headers;
  fits : AreHeaders l.m.manifest l.k l.headers;
  reads : Reads (g.B.Board.view l.fn.board) (g.B.Board.view l.board);
  fault : (g.B.Board.view l.board).flash_faults ≡ (g.B.Board.view l.fn.board).flash_faults;
}
