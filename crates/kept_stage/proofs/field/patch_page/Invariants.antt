use Rattle.std.proofs.Common.{◌≡◌, ℕ, ◌+◌, ◌<◌, ◌≤◌, List, length, get_or}
use Rattle.std.specs.List.{AllByRecursion}
use Rattle.flash_pages.specs.Board.{Told, Reads}
use Rattle.avr_reloc.specs.declared.fixup.Fixup.{Fixup}
use Rattle.avr_reloc.specs.Field.{AreBytes}
use Rattle.avr_reloc.specs.Fixups.{CanBePut}
use Rattle.component_package.specs.link.Areas.{Lists}
use Rattle.component_package.specs.link.Pages.{ArePatched, padded}
use Rattle.kept_relocs.specs.List.{list_area, KeepsList}
use Rattle.kept_stage.specs.Windows.{ArePassed}
use Rattle.kept_stage.proofs.Window.{IsDone}
use Rattle.kept_stage.proofs.field.patch_page.Given as goal

abbrev pub invariant-loop-i : goal.invariant-loop-i
invariant-loop-i g l = record {
  long : length l.into ≡ 256;
  next : l.next ≤ 8192;
  reads : Reads (g.B.Board.view l.initial.board) (g.B.Board.view l.board);
  fault : (g.B.Board.view l.board).flash_faults ≡ (g.B.Board.view l.initial.board).flash_faults;
  keeps : Told (g.B.Board.view l.initial.board) (λ s. KeepsList s l.initial.list → KeepsList s l.list);
  passed : Told (g.B.Board.view l.initial.board) (λ s. KeepsList s l.initial.list → (xs : List Fixup) → Lists (list_area s) xs → ArePassed xs l.base l.first → ArePassed xs (l.base + 256) l.next);
  done : Told (g.B.Board.view l.initial.board) (λ s. KeepsList s l.initial.list → (xs : List Fixup) (plain whole : List ℕ) → Lists (list_area s) xs → ArePassed xs l.base l.first →
      AllByRecursion (CanBePut (length plain)) xs → AreBytes plain → AreBytes whole → ArePatched xs plain whole →
      ((k : ℕ) → k < 256 → get_or l.initial.into k 0 ≡ get_or (padded plain) (l.base + k) 0) → IsDone xs (padded plain) whole l.base l.i l.into);
}
