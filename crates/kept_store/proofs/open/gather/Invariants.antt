use Rattle.std.proofs.Common.{◌≡◌, ◌<◌, ℕ, Some, None, length}
use Rattle.flash_pages.specs.State.{State}
use Rattle.flash_pages.specs.Board.{Reads}
use Rattle.component_package.specs.packages.Reading.{first_fault}
use Rattle.kept_definitions.specs.Kept.{inbox_of, bad_package_at}
use Rattle.kept_manifests.specs.Slots.{place_of, stored_of}
use Rattle.kept_store.specs.Sets.{HasNoFresh, IsSlotFor}
use Rattle.kept_store.specs.Open.{FitsPlace, IsPart, part_in}
use Rattle.kept_store.proofs.open.gather.Given as goal

abbrev pub invariant-loop-k : goal.invariant-loop-k
invariant-loop-k g l = record {
  room : length l.headers ≡ 16;
  code_room : length l.code_at ≡ 16;
  init_room : length l.init_at ≡ 16;
  none : HasNoFresh l.current → IsSlotFor l.current.slots l.m → (s : State) → (g.B.Board.view l.fn.board).state ≡ Some s
      → first_fault (bad_package_at (inbox_of s.ext) (stored_of l.m)) l.k ≡ None;
  fits : (j : ℕ) → j < l.k → FitsPlace (place_of l.m j) (part_in l.headers l.code_at l.init_at j);
  parts : (s : State) → (g.B.Board.view l.fn.board).state ≡ Some s → (j : ℕ) → j < l.k
      → IsPart (inbox_of s.ext) l.m l.current j (part_in l.headers l.code_at l.init_at j);
  reads : Reads (g.B.Board.view l.fn.board) (g.B.Board.view l.board);
  fault : (g.B.Board.view l.board).flash_faults ≡ (g.B.Board.view l.fn.board).flash_faults;
}
