use Rattle.std.proofs.Common.{◌≡◌, List, drop, Some}
use Rattle.std.specs.Prelude.{slice_get}
use Rattle.flash_pages.specs.Board.{Reads, Told}
use Rattle.component_package.specs.packages.Component.{Component}
use Rattle.component_package.specs.link.Link.{first_cause, sites_in}
use Rattle.component_package.specs.link.Areas.{MergedSymbol, Tells}
use Rattle.component_package.specs.link.Pages.{address_in}
use Rattle.external_flash.specs.Readers.{Keeps}
use Rattle.kept_store.specs.Sets.{HoldsSet}
use Rattle.kept_symbols.specs.Stored.{symbol_area}
use Rattle.kept_symbols.specs.Lookup.{KeepsSymbols}
use Rattle.kept_relocs.specs.List.{cause_with}
use Rattle.kept_relocs.proofs.check.check_component.Given as goal

abbrev pub invariant-loop-index : goal.invariant-loop-index
invariant-loop-index g l = record {
  reads : Reads (g.B.Board.view l.initial.board) (g.B.Board.view l.board);
  fault : (g.B.Board.view l.board).flash_faults ≡ (g.B.Board.view l.initial.board).flash_faults;
  keeps : Told (g.B.Board.view l.initial.board) (λ s. Keeps s l.reader);
  symbols : Told (g.B.Board.view l.initial.board) (λ s. KeepsSymbols s l.initial.symbols → KeepsSymbols s l.symbols);
  free : Told (g.B.Board.view l.initial.board) (λ s. KeepsSymbols s l.initial.symbols → (components : List Component) → HoldsSet s l.set components → (table : List MergedSymbol) →
      Tells (symbol_area s) table → (c : Component) → slice_get components l.k ≡ Some c →
      first_cause (cause_with (address_in table) components) (sites_in l.k c) ≡ first_cause (cause_with (address_in table) components) (drop l.index (sites_in l.k c)));
}
