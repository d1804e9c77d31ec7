-- Versions that are found and counted.
use Rattle.std.specs.Prelude.{ℕ, ◌==◌, ◌≤◌, List, length, Option}
use Rattle.std.specs.List.{All}
use Rattle.std.specs.BTreeMap.{BTreeMap, get_by}
use Rattle.std.specs.Ordering.{nat_cmp, ordering_then}
use Rattle.release_rows.specs.declared.row.VersionRow.{VersionRow}
use Rattle.release_rows.specs.Tables.{is_version}
use Rattle.release_rows.specs.Change.{IsPackageOf}
use Rattle.release_keeper.specs.declared.versions.VersionKey.{VersionKey}
use Rattle.release_keeper.specs.Index.{PointsAt, CountsRows, at_number}

-- what a map has at this version
abbrev pub at_version : {X : Type 0} → BTreeMap VersionKey X → (ℕ × ℕ) → Option X
at_version m key = get_by (λ k. ordering_then (nat_cmp key.0 k.component) (nat_cmp key.1 k.version)) m

pub record AreVersions (places : BTreeMap VersionKey ℕ) (counts : BTreeMap ℕ ℕ) (rows : List VersionRow) : Type 0 where
  pub points : PointsAt (λ (key : ℕ × ℕ). is_version key.0 key.1) (at_version places) rows
  pub counted : CountsRows (λ (component : ℕ) (r : VersionRow). r.component == component) (at_number counts) rows
  pub packages : All (λ r. IsPackageOf r.component r.version r.bytes) rows
  pub few : length rows ≤ 4294967295
