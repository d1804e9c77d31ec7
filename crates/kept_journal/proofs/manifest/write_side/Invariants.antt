use Rattle.std.proofs.Common.{◌≡◌}
use Rattle.flash_pages.specs.Board.{UsesFlash, Told}
use Rattle.kept_manifests.specs.Slots.{stored_of}
use Rattle.kept_definitions.specs.Stored.{stored_bytes}
use Rattle.kept_journal.specs.Steps.{parts, Step, Takes, CanWrite, side_pages}
use Rattle.kept_journal.proofs.Writing.{Written}
use Rattle.kept_journal.proofs.manifest.write_side.Given as goal

abbrev pub invariant-loop-i : goal.invariant-loop-i
invariant-loop-i g l = record {
  each : Told (g.B.Board.view l.fn.board) (λ s. Takes (Step (CanWrite l.on_b (parts s)) (side_pages l.on_b) s) (side_pages l.on_b) l.i (g.B.Board.view l.fn.board) (g.B.Board.view l.board));
  written : Told (g.B.Board.view l.fn.board) (λ s. Written l.on_b l.i (stored_bytes (stored_of l.m)) s (g.B.Board.view l.board));
  uses : UsesFlash (g.B.Board.view l.fn.board) (g.B.Board.view l.board);
  fault : (g.B.Board.view l.board).flash_faults ≡ (g.B.Board.view l.fn.board).flash_faults;
}
