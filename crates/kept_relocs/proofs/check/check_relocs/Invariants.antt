use Rattle.std.proofs.Common.{◌≡◌, List}
use Rattle.flash_pages.specs.Board.{Reads, Told}
use Rattle.component_package.specs.packages.Component.{Component}
use Rattle.component_package.specs.link.Link.{first_cause}
use Rattle.component_package.specs.link.Areas.{MergedSymbol, Tells}
use Rattle.component_package.specs.link.Pages.{address_in}
use Rattle.kept_store.specs.Sets.{HoldsSet}
use Rattle.kept_symbols.specs.Stored.{symbol_area}
use Rattle.kept_symbols.specs.Lookup.{KeepsSymbols}
use Rattle.kept_relocs.specs.List.{cause_with, cause_from}
use Rattle.kept_relocs.specs.Order.{sites_after}
use Rattle.kept_relocs.proofs.check.check_relocs.Given as goal

abbrev pub invariant-loop-k : goal.invariant-loop-k
invariant-loop-k g l = record {
  reads : Reads (g.B.Board.view l.initial.board) (g.B.Board.view l.board);
  fault : (g.B.Board.view l.board).flash_faults ≡ (g.B.Board.view l.initial.board).flash_faults;
  symbols : Told (g.B.Board.view l.initial.board) (λ s. KeepsSymbols s l.symbols);
  free : Told (g.B.Board.view l.initial.board) (λ s. (components : List Component) → HoldsSet s l.set components → (table : List MergedSymbol) → Tells (symbol_area s) table →
      cause_from table components ≡ first_cause (cause_with (address_in table) components) (sites_after components l.k 0));
}
