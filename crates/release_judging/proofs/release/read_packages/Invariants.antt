use Rattle.std.proofs.Common.{◌≡◌, Some, take}
use Rattle.release_rows.specs.Tables.{Tables, stored_package}
use Rattle.release_judging.specs.Packages.{ArePackagesOf}
use Rattle.release_judging.proofs.Gathered.{IsGathered}
use Rattle.release_judging.proofs.release.read_packages.Given as goal

abbrev pub invariant-loop-part : goal.invariant-loop-part
invariant-loop-part g l =
    (g.R.Rows.view l.rows ≡ g.R.Rows.view l.fn.rows)
    × ArePackagesOf (take l.part-index l.parts) l.packages.items
    × ((t : Tables) → (g.R.Rows.view l.fn.rows).tables ≡ Some t → IsGathered (λ p. stored_package t p.component p.version) l.parts l.part-index l.packages.items)
