use Rattle.std.proofs.Common.{◌≡◌, Some}
use Rattle.release_rows.specs.Tables.{Tables}
use Rattle.release_judging.proofs.Gathered.{IsGathered}
use Rattle.release_rules.specs.Motes.{named_part}
use Rattle.release_rules.proofs.mote.name_parts.Given as goal

abbrev pub invariant-loop-part : goal.invariant-loop-part
invariant-loop-part g l =
    (g.R.Rows.view l.rows ≡ g.R.Rows.view l.fn.rows)
    × ((t : Tables) → (g.R.Rows.view l.fn.rows).tables ≡ Some t → IsGathered (named_part t) l.parts l.part-index l.named.items)
