use Rattle.std.proofs.Common.{◌≡◌, Some, length}
use Rattle.flash_pages.specs.State.{State}
use Rattle.flash_pages.specs.Board.{Reads}
use Rattle.kept_definitions.specs.Kept.{tables_of}
use Rattle.kept_store.specs.Open.{HasTableHeaders}
use Rattle.kept_store.proofs.current.table_headers.Given as goal

abbrev pub invariant-loop-k : goal.invariant-loop-k
invariant-loop-k g l = record {
  room : length l.headers ≡ 16;
  headers_are : (s : State) → (g.B.Board.view l.fn.board).state ≡ Some s → HasTableHeaders (tables_of s.ext) l.m l.k l.headers;
  reads : Reads (g.B.Board.view l.fn.board) (g.B.Board.view l.board);
  fault : (g.B.Board.view l.board).flash_faults ≡ (g.B.Board.view l.fn.board).flash_faults;
}
