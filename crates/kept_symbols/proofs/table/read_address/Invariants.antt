use Rattle.std.proofs.Common.{◌≡◌, ◌-◌, ◌≤◌, List, Some}
use Rattle.flash_pages.specs.State.{State}
use Rattle.flash_pages.specs.Board.{Reads}
use Rattle.component_package.specs.link.Areas.{MergedSymbol, Tells}
use Rattle.kept_symbols.specs.Stored.{symbol_area}
use Rattle.kept_symbols.specs.Lookup.{first_from, KeepsSymbols}
use Rattle.kept_symbols.proofs.table.read_address.Given as goal

abbrev pub invariant-loop-low : goal.invariant-loop-low
invariant-loop-low g l = record {
  order : l.low ≤ l.high;
  inside : l.high ≤ 1024;
  keeps : (s : State) → (g.B.Board.view l.fn.board).state ≡ Some s → KeepsSymbols s l.fn.symbols → KeepsSymbols s l.symbols;
  low : (s : State) → (g.B.Board.view l.fn.board).state ≡ Some s → KeepsSymbols s l.fn.symbols → (rs : List MergedSymbol) → Tells (symbol_area s) rs → l.low ≤ first_from l.symbol rs;
  high : (s : State) → (g.B.Board.view l.fn.board).state ≡ Some s → KeepsSymbols s l.fn.symbols → (rs : List MergedSymbol) → Tells (symbol_area s) rs → first_from l.symbol rs ≤ l.high;
  reads : Reads (g.B.Board.view l.fn.board) (g.B.Board.view l.board);
  fault : (g.B.Board.view l.board).flash_faults ≡ (g.B.Board.view l.fn.board).flash_faults;
}

abbrev pub decreases-loop-low : goal.decreases-loop-low
decreases-loop-low g l = l.high - l.low
