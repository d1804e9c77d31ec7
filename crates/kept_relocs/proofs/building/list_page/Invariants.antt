use Rattle.std.proofs.Common.{◌≡◌, ◌≤◌, List, drop, take, map, length}
use Rattle.std.specs.List.{AllByRecursion}
use Rattle.flash_pages.specs.Board.{Reads, Told}
use Rattle.external_flash.specs.Readers.{Keeps}
use Rattle.component_package.specs.packages.Component.{Component}
use Rattle.component_package.specs.link.Link.{fixup_with}
use Rattle.component_package.specs.link.Areas.{MergedSymbol, Tells, IsEntry, area_bytes, entry_bytes}
use Rattle.component_package.specs.link.Pages.{address_in}
use Rattle.kept_store.specs.Sets.{HoldsSet}
use Rattle.kept_symbols.specs.Stored.{symbol_area}
use Rattle.kept_symbols.specs.Lookup.{KeepsSymbols}
use Rattle.kept_relocs.specs.Order.{rest_of, IsWithin}
use Rattle.kept_relocs.proofs.building.list_page.Given as goal

abbrev pub invariant-loop-j : goal.invariant-loop-j
invariant-loop-j g l = record {
  inside : l.j ≤ 32;
  within : IsWithin l.set l.cursor;
  reads : Reads (g.B.Board.view l.initial.board) (g.B.Board.view l.board);
  fault : (g.B.Board.view l.board).flash_faults ≡ (g.B.Board.view l.initial.board).flash_faults;
  keeps : Told (g.B.Board.view l.initial.board) (λ s. Keeps s l.reader);
  rest : Told (g.B.Board.view l.initial.board) (λ s. (components : List Component) → HoldsSet s l.set components →
      rest_of components l.cursor ≡ drop l.j (rest_of components l.initial.cursor));
  few : Told (g.B.Board.view l.initial.board) (λ s. (components : List Component) → HoldsSet s l.set components → l.j ≤ length (rest_of components l.initial.cursor));
  symbols : Told (g.B.Board.view l.initial.board) (λ s. KeepsSymbols s l.initial.symbols → KeepsSymbols s l.symbols);
  page : Told (g.B.Board.view l.initial.board) (λ s. (components : List Component) → HoldsSet s l.set components → KeepsSymbols s l.initial.symbols → (table : List MergedSymbol) →
      Tells (symbol_area s) table → AllByRecursion IsEntry (map (fixup_with (address_in table) components) (rest_of components l.initial.cursor)) →
      l.page ≡ area_bytes entry_bytes 256 (take l.j (map (fixup_with (address_in table) components) (rest_of components l.initial.cursor))));
}
