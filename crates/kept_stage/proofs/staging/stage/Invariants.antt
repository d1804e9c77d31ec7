use Rattle.std.proofs.Common.{◌≡◌, ℕ, ◌≤◌, ◌*◌, List, [], Some, get_or}
use Rattle.flash_pages.specs.State.{State}
use Rattle.flash_pages.specs.Board.{UsesFlash, Told}
use Rattle.avr_reloc.specs.declared.fixup.Fixup.{Fixup}
use Rattle.component_package.specs.link.Areas.{Lists}
use Rattle.kept_relocs.specs.List.{list_area, KeepsList}
use Rattle.kept_relocs.proofs.Written.{IsPassed, HoldsFirst, Spares}
use Rattle.kept_stage.specs.Windows.{ArePassed}
use Rattle.kept_stage.specs.Staged.{ArePagesOf, OnlyStaged}
use Rattle.kept_stage.proofs.staging.stage.Given as goal

abbrev pub invariant-loop-page : goal.invariant-loop-page
invariant-loop-page g l = record {
  inside : l.page ≤ 480;
  low : l.first ≤ 8192;
  uses : UsesFlash (g.B.Board.view l.initial.board) (g.B.Board.view l.board);
  fault : (g.B.Board.view l.board).flash_faults ≡ (g.B.Board.view l.initial.board).flash_faults;
  pass : Told (g.B.Board.view l.initial.board) (λ s. IsPassed 306 OnlyStaged l.page s (g.B.Board.view l.initial.board) (g.B.Board.view l.board));
  keeps : Told (g.B.Board.view l.initial.board) (λ s. KeepsList s l.list);
  passed : Told (g.B.Board.view l.initial.board) (λ s. (xs : List Fixup) → Lists (list_area s) xs → ArePassed xs (256 * l.page) l.first);
  holds : Told (g.B.Board.view l.initial.board) (λ s. (pages : List (List ℕ)) → ArePagesOf s l.set pages →
      (x : State) → (g.B.Board.view l.board).state ≡ Some x → HoldsFirst 306 l.page x (λ p. get_or pages p []));
  spares : Told (g.B.Board.view l.initial.board) (λ s. (pages : List (List ℕ)) → ArePagesOf s l.set pages →
      Spares 306 l.page s (λ p. get_or pages p []) (g.B.Board.view l.initial.board) (g.B.Board.view l.board));
}
