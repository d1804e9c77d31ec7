use Rattle.std.proofs.Common.{◌≡◌, List, drop, Some}
use Rattle.std.specs.Prelude.{slice_get}
use Rattle.flash_pages.specs.Board.{Reads}
use Rattle.component_package.specs.packages.Component.{Component}
use Rattle.component_package.specs.link.Link.{first_cause, sites_in}
use Rattle.component_package.specs.link.Areas.{MergedSymbol, Tells}
use Rattle.component_package.specs.link.Pages.{address_in}
use Rattle.component_store.specs.Reader.{Keeps}
use Rattle.component_store.specs.Sets.{HoldsSet}
use Rattle.flash_pages.specs.Board.{Told}
use Rattle.symbol_merge.specs.Stored.{set_in, symbol_area}
use Rattle.symbol_merge.specs.Lookup.{KeepsSymbols}
use Rattle.reloc_table.specs.List.{cause_with}
use Rattle.reloc_table.proofs.check.check_component.Given as goal

abbrev pub invariant-loop-index : goal.invariant-loop-index
invariant-loop-index g l = record {
  reads : Reads (g.B.Board.view l.initial.board) (g.B.Board.view l.board);
  fault : (g.B.Board.view l.board).flash_faults ≡ (g.B.Board.view l.initial.board).flash_faults;
  keeps : Told (g.B.Board.view l.initial.board) (λ s. HoldsSet s l.set → Keeps s l.table);
  symbols : Told (g.B.Board.view l.initial.board) (λ s. KeepsSymbols s l.initial.symbols → KeepsSymbols s l.symbols);
  free : Told (g.B.Board.view l.initial.board) (λ s. KeepsSymbols s l.initial.symbols → HoldsSet s l.set → (table : List MergedSymbol) → Tells (symbol_area s) table → (c : Component) → slice_get (set_in s l.set) l.k ≡ Some c →
      first_cause (cause_with (address_in table) (set_in s l.set)) (sites_in l.k c) ≡ first_cause (cause_with (address_in table) (set_in s l.set)) (drop l.index (sites_in l.k c)));
}
