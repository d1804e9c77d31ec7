use Rattle.std.proofs.Common.{◌≡◌, ◌-◌, ◌≤◌, List}
use Rattle.avr_reloc.specs.declared.fixup.Fixup.{Fixup}
use Rattle.flash_pages.specs.Board.{Reads, Told}
use Rattle.component_package.specs.link.Areas.{Lists}
use Rattle.kept_relocs.specs.List.{list_area, first_above, KeepsList}
use Rattle.kept_relocs.proofs.list.first_at.Given as goal

abbrev pub invariant-loop-low : goal.invariant-loop-low
invariant-loop-low g l = record {
  within : l.low ≤ l.high;
  inside : l.high ≤ 8192;
  reads : Reads (g.B.Board.view l.initial.board) (g.B.Board.view l.board);
  fault : (g.B.Board.view l.board).flash_faults ≡ (g.B.Board.view l.initial.board).flash_faults;
  keeps : Told (g.B.Board.view l.initial.board) (λ s. KeepsList s l.list);
  low : Told (g.B.Board.view l.initial.board) (λ s. (xs : List Fixup) → Lists (list_area s) xs → l.low ≤ first_above l.base xs);
  high : Told (g.B.Board.view l.initial.board) (λ s. (xs : List Fixup) → Lists (list_area s) xs → first_above l.base xs ≤ l.high);
}

abbrev pub decreases-loop-low : goal.decreases-loop-low
decreases-loop-low g l = l.high - l.low
