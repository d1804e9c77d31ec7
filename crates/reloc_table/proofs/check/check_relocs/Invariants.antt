use Rattle.std.proofs.Common.{◌≡◌, List}
use Rattle.flash_pages.specs.Board.{Reads}
use Rattle.component_package.specs.link.Link.{first_cause}
use Rattle.component_package.specs.link.Areas.{MergedSymbol, Tells}
use Rattle.component_package.specs.link.Pages.{address_in}
use Rattle.component_store.specs.Sets.{HoldsSet}
use Rattle.flash_pages.specs.Board.{Told}
use Rattle.symbol_merge.specs.Stored.{set_in, symbol_area}
use Rattle.symbol_merge.specs.Lookup.{KeepsSymbols}
use Rattle.reloc_table.specs.List.{cause_with, cause_from}
use Rattle.reloc_table.specs.Order.{sites_after}
use Rattle.reloc_table.proofs.check.check_relocs.Given as goal

abbrev pub invariant-loop-k : goal.invariant-loop-k
invariant-loop-k g l = record {
  reads : Reads (g.B.Board.view l.initial.board) (g.B.Board.view l.board);
  fault : (g.B.Board.view l.board).flash_faults ≡ (g.B.Board.view l.initial.board).flash_faults;
  symbols : Told (g.B.Board.view l.initial.board) (λ s. KeepsSymbols s l.symbols);
  free : Told (g.B.Board.view l.initial.board) (λ s. HoldsSet s l.set → (table : List MergedSymbol) → Tells (symbol_area s) table →
      cause_from table (set_in s l.set) ≡ first_cause (cause_with (address_in table) (set_in s l.set)) (sites_after (set_in s l.set) l.k 0));
}
