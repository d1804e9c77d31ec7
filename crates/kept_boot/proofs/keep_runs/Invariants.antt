use Rattle.std.proofs.Common.{◌≡◌, Some, ◌*◌}
use Rattle.flash_pages.specs.Board.{UsesFlash, Told}
use Rattle.component_package.specs.packages.Reading.{list_of}
use Rattle.kept_definitions.specs.Machine.{Mote}
use Rattle.kept_manifests.specs.Slots.{place_of, stored_of}
use Rattle.kept_journal.specs.Steps.{Stands, Step, Takes}
use Rattle.kept_boot.specs.Boots.{with_runs, fresh_tables, Installs}
use Rattle.kept_boot.specs.Bringing.{Brings}
use Rattle.kept_boot.proofs.keep_runs.Given as goal

abbrev pub invariant-loop-k : goal.invariant-loop-k
invariant-loop-k g l = record {
  state : Told (g.B.Board.view l.fn.board) (λ s. (g.B.Board.view l.board).state ≡ Some (with_runs (list_of (place_of l.m) l.k) s));
  brings : Told (g.B.Board.view l.fn.board) (λ s. (t : Mote) → Stands s t → Installs (stored_of l.m) t → Brings l.m l.k t s (with_runs (list_of (place_of l.m) l.k) s));
  each : Told (g.B.Board.view l.fn.board) (λ s.
      Takes (Step (Installs (stored_of l.m)) (fresh_tables (stored_of l.m).placed) s) (fresh_tables (stored_of l.m).placed) (39 * l.k) (g.B.Board.view l.fn.board) (g.B.Board.view l.board));
  uses : UsesFlash (g.B.Board.view l.fn.board) (g.B.Board.view l.board);
  fault : (g.B.Board.view l.board).flash_faults ≡ (g.B.Board.view l.fn.board).flash_faults;
}
