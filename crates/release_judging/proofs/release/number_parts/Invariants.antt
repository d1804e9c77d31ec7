use Rattle.std.proofs.Common.{◌≡◌, Some, length}
use Rattle.release_rows.specs.Tables.{Tables}
use Rattle.release_judging.specs.Judging.{numbered_part}
use Rattle.release_judging.proofs.Gathered.{IsGathered}
use Rattle.release_judging.proofs.release.number_parts.Given as goal

abbrev pub invariant-loop-part : goal.invariant-loop-part
invariant-loop-part g l =
    (g.R.Rows.view l.rows ≡ g.R.Rows.view l.fn.rows)
    × (length l.numbered.items ≡ l.part-index)
    × ((t : Tables) → (g.R.Rows.view l.fn.rows).tables ≡ Some t → IsGathered (numbered_part t) l.parts l.part-index l.numbered.items)
