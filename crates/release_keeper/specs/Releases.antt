-- Releases that are found and counted.
use Rattle.std.specs.Prelude.{ℕ, ◌≤◌, bytes_eq, List, length, Option, Vec}
use Rattle.std.specs.List.{All}
use Rattle.std.specs.BTreeMap.{BTreeMap, get_by}
use Rattle.std.specs.Cmp.Lexicographic.{slice_cmp}
use Rattle.std.specs.Ordering.{nat_cmp, ordering_then}
use Rattle.release_rows.specs.declared.row.ReleaseRow.{ReleaseRow}
use Rattle.release_rows.specs.Tables.{is_release}
use Rattle.release_rows.specs.Change.{IsPartList}
use Rattle.release_keeper.specs.declared.releases.ReleaseKey.{ReleaseKey}
use Rattle.release_keeper.specs.Index.{PointsAt, CountsRows, at_name}

-- what a map has at this release for this mote
abbrev pub at_release : {X : Type 0} → BTreeMap ReleaseKey X → (List ℕ × ℕ) → Option X
at_release m key = get_by (λ k. ordering_then (slice_cmp nat_cmp key.0 k.mote.items) (nat_cmp key.1 k.number)) m

pub record AreReleases {A : Type 0} (places : BTreeMap ReleaseKey ℕ) (counts : BTreeMap (Vec ℕ A) ℕ) (rows : List ReleaseRow) : Type 0 where
  pub points : PointsAt (λ (key : List ℕ × ℕ). is_release key.0 key.1) (at_release places) rows
  pub counted : CountsRows (λ (mote : List ℕ) (r : ReleaseRow). bytes_eq mote r.mote) (at_name counts) rows
  pub parts : All (λ r. IsPartList r.parts) rows
  pub few : length rows ≤ 4294967295
