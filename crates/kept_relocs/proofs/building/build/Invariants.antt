use Rattle.std.proofs.Common.{◌≡◌, ◌≤◌, ◌*◌, List, drop, Some}
use Rattle.flash_pages.specs.State.{State}
use Rattle.flash_pages.specs.Board.{UsesFlash, Told}
use Rattle.component_package.specs.link.Link.{sites_of}
use Rattle.component_package.specs.link.Areas.{MergedSymbol, Tells}
use Rattle.component_package.specs.link.Pages.{in_image_order}
use Rattle.component_package.specs.packages.Component.{Component}
use Rattle.kept_store.specs.Sets.{HoldsSet}
use Rattle.kept_symbols.specs.Stored.{symbol_area}
use Rattle.kept_symbols.specs.Lookup.{KeepsSymbols}
use Rattle.kept_relocs.specs.Order.{rest_of, IsWithin}
use Rattle.kept_relocs.specs.Written.{OnlyList}
use Rattle.kept_relocs.proofs.Written.{IsPassed, HoldsFirst, Spares}
use Rattle.kept_relocs.proofs.Steps.{target}
use Rattle.kept_relocs.proofs.building.build.Given as goal

abbrev pub invariant-loop-page : goal.invariant-loop-page
invariant-loop-page g l = record {
  inside : l.page ≤ 256;
  within : IsWithin l.set l.cursor;
  uses : UsesFlash (g.B.Board.view l.initial.board) (g.B.Board.view l.board);
  fault : (g.B.Board.view l.board).flash_faults ≡ (g.B.Board.view l.initial.board).flash_faults;
  pass : Told (g.B.Board.view l.initial.board) (λ s. IsPassed 50 OnlyList l.page s (g.B.Board.view l.initial.board) (g.B.Board.view l.board));
  symbols : Told (g.B.Board.view l.initial.board) (λ s. KeepsSymbols s l.symbols);
  rest : Told (g.B.Board.view l.initial.board) (λ s. (components : List Component) → HoldsSet s l.set components →
      rest_of components l.cursor ≡ drop (32 * l.page) (in_image_order (sites_of components)));
  holds : Told (g.B.Board.view l.initial.board) (λ s. (components : List Component) → HoldsSet s l.set components → (table : List MergedSymbol) → Tells (symbol_area s) table →
      (x : State) → (g.B.Board.view l.board).state ≡ Some x → HoldsFirst 50 l.page x (target components table));
  spares : Told (g.B.Board.view l.initial.board) (λ s. (components : List Component) → HoldsSet s l.set components → (table : List MergedSymbol) → Tells (symbol_area s) table →
      Spares 50 l.page s (target components table) (g.B.Board.view l.initial.board) (g.B.Board.view l.board));
}
