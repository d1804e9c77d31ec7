use Rattle.std.proofs.Common.{◌≡◌, Some, length, map, take}
use Rattle.release_rows.specs.Tables.{Tables, symbol_number}
use Rattle.release_versions.proofs.numbers.known_numbers.Given as goal

abbrev pub invariant-loop-i : goal.invariant-loop-i
invariant-loop-i g l =
    (g.R.Rows.view l.rows ≡ g.R.Rows.view l.fn.rows)
    × (length l.known.items ≡ l.i)
    × ((t : Tables) → (g.R.Rows.view l.fn.rows).tables ≡ Some t → l.known.items ≡ map (symbol_number t) (take l.i l.names))
