use Rattle.std.proofs.Common.{◌≡◌, ◌≤◌, List, drop, take, map, length}
use Rattle.std.specs.List.{AllByRecursion}
use Rattle.flash_pages.specs.Board.{Reads}
use Rattle.component_package.specs.link.Link.{fixup_with}
use Rattle.component_package.specs.link.Areas.{MergedSymbol, Tells, IsEntry, area_bytes, entry_bytes}
use Rattle.component_package.specs.link.Pages.{address_in}
use Rattle.component_store.specs.Reader.{Keeps}
use Rattle.component_store.specs.Sets.{HoldsSet}
use Rattle.flash_pages.specs.Board.{Told}
use Rattle.symbol_merge.specs.Stored.{set_in, symbol_area}
use Rattle.symbol_merge.specs.Lookup.{KeepsSymbols}
use Rattle.reloc_table.specs.Order.{rest_of, IsWithin}
use Rattle.reloc_table.proofs.building.list_page.Given as goal

abbrev pub invariant-loop-j : goal.invariant-loop-j
invariant-loop-j g l = record {
  inside : l.j ≤ 32;
  within : IsWithin l.set l.cursor;
  reads : Reads (g.B.Board.view l.initial.board) (g.B.Board.view l.board);
  fault : (g.B.Board.view l.board).flash_faults ≡ (g.B.Board.view l.initial.board).flash_faults;
  keeps : Told (g.B.Board.view l.initial.board) (λ s. Keeps s l.initial.cursor.table → HoldsSet s l.set → Keeps s l.cursor.table);
  rest : Told (g.B.Board.view l.initial.board) (λ s. Keeps s l.initial.cursor.table → HoldsSet s l.set → rest_of (set_in s l.set) l.cursor ≡ drop l.j (rest_of (set_in s l.set) l.initial.cursor));
  few : Told (g.B.Board.view l.initial.board) (λ s. Keeps s l.initial.cursor.table → HoldsSet s l.set → l.j ≤ length (rest_of (set_in s l.set) l.initial.cursor));
  symbols : Told (g.B.Board.view l.initial.board) (λ s. KeepsSymbols s l.initial.symbols → KeepsSymbols s l.symbols);
  page : Told (g.B.Board.view l.initial.board) (λ s. Keeps s l.initial.cursor.table → HoldsSet s l.set → KeepsSymbols s l.initial.symbols → (table : List MergedSymbol) → Tells (symbol_area s) table →
      AllByRecursion IsEntry (map (fixup_with (address_in table) (set_in s l.set)) (rest_of (set_in s l.set) l.initial.cursor)) →
      l.page ≡ area_bytes entry_bytes 256 (take l.j (map (fixup_with (address_in table) (set_in s l.set)) (rest_of (set_in s l.set) l.initial.cursor))));
}
