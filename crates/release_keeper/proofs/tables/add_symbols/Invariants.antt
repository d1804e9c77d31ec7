use Rattle.std.proofs.Common.{◌≡◌, ◌++◌, take}
use Rattle.release_keeper.proofs.tables.add_symbols.Given as goal

abbrev pub invariant-loop-symbol : goal.invariant-loop-symbol
invariant-loop-symbol l = l.rows ≡ l.initial.rows ++ take l.symbol-index l.symbols
