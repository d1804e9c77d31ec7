use Rattle.std.proofs.Common.{◌≡◌, ◌≤◌, ◌*◌, List, drop, Some}
use Rattle.flash_pages.specs.State.{State}
use Rattle.flash_pages.specs.Board.{UsesFlash}
use Rattle.component_package.specs.link.Link.{sites_of}
use Rattle.component_package.specs.link.Areas.{MergedSymbol, Tells}
use Rattle.component_package.specs.link.Pages.{in_image_order}
use Rattle.component_store.specs.Reader.{Keeps}
use Rattle.component_store.specs.Sets.{HoldsSet}
use Rattle.flash_pages.specs.Board.{Told}
use Rattle.symbol_merge.specs.Stored.{set_in, symbol_area}
use Rattle.symbol_merge.specs.Lookup.{KeepsSymbols}
use Rattle.reloc_table.specs.Order.{rest_of, IsWithin}
use Rattle.reloc_table.specs.Written.{OnlyList}
use Rattle.reloc_table.proofs.Written.{IsPassed, HoldsFirst, Spares}
use Rattle.reloc_table.proofs.Steps.{target}
use Rattle.reloc_table.proofs.building.build.Given as goal

abbrev pub invariant-loop-page : goal.invariant-loop-page
invariant-loop-page g l = record {
  inside : l.page ≤ 256;
  within : IsWithin l.set l.cursor;
  uses : UsesFlash (g.B.Board.view l.initial.board) (g.B.Board.view l.board);
  fault : (g.B.Board.view l.board).flash_faults ≡ (g.B.Board.view l.initial.board).flash_faults;
  pass : Told (g.B.Board.view l.initial.board) (λ s. IsPassed 50 OnlyList l.page s (g.B.Board.view l.initial.board) (g.B.Board.view l.board));
  keeps : Told (g.B.Board.view l.initial.board) (λ s. HoldsSet s l.set → Keeps s l.cursor.table);
  symbols : Told (g.B.Board.view l.initial.board) (λ s. KeepsSymbols s l.symbols);
  rest : Told (g.B.Board.view l.initial.board) (λ s. HoldsSet s l.set → rest_of (set_in s l.set) l.cursor ≡ drop (32 * l.page) (in_image_order (sites_of (set_in s l.set))));
  holds : Told (g.B.Board.view l.initial.board) (λ s. HoldsSet s l.set → (table : List MergedSymbol) → Tells (symbol_area s) table →
      (x : State) → (g.B.Board.view l.board).state ≡ Some x → HoldsFirst 50 l.page x (target (set_in s l.set) table));
  spares : Told (g.B.Board.view l.initial.board) (λ s. HoldsSet s l.set → (table : List MergedSymbol) → Tells (symbol_area s) table →
      Spares 50 l.page s (target (set_in s l.set) table) (g.B.Board.view l.initial.board) (g.B.Board.view l.board));
}
