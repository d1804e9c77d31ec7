-- A row more in each kind of table, and what is left where a row was noted and didn't come.
use Rattle.std.proofs.Common.{◌≡◌, ⊎_elim, ℕ, ◌+◌, ◌<◌, ◌≤◌, Bool, true, false, eqb, List, [], ◌∷◌, ◌++◌, length, Option, Some, sym, ap, subst, ◌∙◌, arith, length-append}
use Rattle.std.specs.Prelude.{bytes_eq, Vec, Result, Ok, Err, OnOk, OnErr, is_err, unwrap_or, ◌&&◌}
use Rattle.std.specs.List.{All, filter}
use Rattle.std.specs.declared.cmp.Ordering.{Ordering}
use Rattle.std.specs.Ordering.{nat_cmp, ordering_then}
use Rattle.std.specs.Cmp.{nat_cmp_total}
use Rattle.std.specs.Cmp.Lexicographic.{slice_cmp, bytes_decides, nat_list_cmp_total}
use Rattle.std.specs.BTreeMap.{BTreeMap, is_at, Updates}
use Rattle.std.specs.Map.{lookup}
use Rattle.std.proofs.lemmas.Bool.{and_parts, eqb-true, eq-eqb, true≢false}
use Rattle.std.proofs.lemmas.List.Sums.{length-filter, count_by-le-length}
use Rattle.std.proofs.lemmas.List.Elements.{All-push}
use Rattle.std.proofs.lemmas.Map.Lookups.{exact_unsigned, exact_bytes}
use Rattle.release_rows.specs.declared.row.VersionRow.{VersionRow}
use Rattle.release_rows.specs.declared.row.ReleaseRow.{ReleaseRow}
use Rattle.release_rows.specs.declared.row.ComponentRow.{ComponentRow}
use Rattle.release_rows.specs.Tables.{is_version, is_release}
use Rattle.release_rows.specs.Change.{IsPackageOf, IsPartList}
use Rattle.release_keeper.specs.declared.versions.VersionKey.{VersionKey}
use Rattle.release_keeper.specs.declared.releases.ReleaseKey.{ReleaseKey}
use Rattle.release_keeper.specs.Index.{PointsAt, AreIndexed, Notes, at_name, at_number}
use Rattle.release_keeper.specs.Versions.{AreVersions, at_version}
use Rattle.release_keeper.specs.Releases.{AreReleases, at_release}
use Rattle.release_keeper.proofs.Index.{Knows, Noted, points_noted, points_added, indexed_added, counts_same, counts_push}
use Rattle.release_keeper.proofs.Maps.{others_stay, noted, pair_cmp, pairs_total, pairs_exact}

-- ---- results that are known

pub at_ok : {A E P : Type 0} (r : Result A E) → is_err r ≡ false → OnOk r P → P
at_ok (Ok a) is holds = holds
at_ok (Err e) is holds = absurd (true≢false is)

pub at_err : {A E P : Type 0} (r : Result A E) → is_err r ≡ true → OnErr r P → P
at_err (Ok a) is holds = absurd (true≢false (sym is))
at_err (Err e) is holds = holds

-- ---- how many

pub filter_few : {Row : Type 0} (p : Row → Bool) (rows : List Row) → length (filter p rows) ≤ length rows
filter_few p rows = omega (arith, length-filter p rows, count_by-le-length p rows)

-- ---- rows with names

module _ {A Row : Type 0} (name_of : Row → List ℕ) where
  -- a row with a name that was noted
  pub named_added : (known : Bool) (old new : BTreeMap (Vec ℕ A) ℕ) (rows after : List Row) (k : Vec ℕ A) (r : Row) (place : ℕ) → k.items ≡ name_of r → after ≡ rows ++ r ∷ [] → place ≡ length rows → place < 4294967295
      → Knows known (λ x. bytes_eq k.items (name_of x)) rows → Notes (λ x y. slice_cmp nat_cmp x.items y.items) known old new k place
      → AreIndexed (λ name x. bytes_eq name (name_of x)) (at_name old) rows → AreIndexed (λ name x. bytes_eq name (name_of x)) (at_name new) after
  named_added known old new rows after k r place named is last low knows notes indexed =
      indexed_added (λ name x. bytes_eq name (name_of x)) known (at_name old) (at_name new) rows after k.items r place
      (λ key passes. (bytes_decides key (name_of r)).0 passes ∙ sym named) is last low knows
      (noted (slice_cmp nat_cmp) nat_list_cmp_total exact_bytes (λ (x : Vec ℕ A). x.items) known old new k place notes) indexed

-- ---- components by their numbers

abbrev numbered : ℕ → ComponentRow → Bool
numbered number r = eqb r.number number

numbers_noted : (known : Bool) (old new : BTreeMap ℕ ℕ) (k place : ℕ) → Notes nat_cmp known old new k place → Noted known (at_number old) (at_number new) k place
numbers_noted known old new k place notes = noted nat_cmp nat_cmp_total exact_unsigned (λ (x : ℕ). x) known old new k place notes

pub numbered_noted : (known : Bool) (old new : BTreeMap ℕ ℕ) (rows after : List ComponentRow) (k place : ℕ) → after ≡ rows → Knows known (numbered k) rows → Notes nat_cmp known old new k place
    → PointsAt numbered (at_number old) rows → PointsAt numbered (at_number new) after
numbered_noted known old new rows after k place is knows notes points =
    subst (PointsAt numbered (at_number new)) (sym is) (points_noted numbered known (at_number old) (at_number new) rows k place knows (numbers_noted known old new k place notes) points)

pub numbered_added : (known : Bool) (old new : BTreeMap ℕ ℕ) (rows after : List ComponentRow) (r : ComponentRow) (place : ℕ) → after ≡ rows ++ r ∷ [] → place ≡ length rows → Knows known (numbered r.number) rows
    → Notes nat_cmp known old new r.number place → PointsAt numbered (at_number old) rows → PointsAt numbered (at_number new) after
numbered_added known old new rows after r place is last knows notes points =
    points_added numbered known (at_number old) (at_number new) rows after r.number r place (λ key passes. sym (eqb-true r.number key passes)) is last knows
    (numbers_noted known old new r.number place notes) points

-- ---- versions

abbrev version_of : (ℕ × ℕ) → VersionRow → Bool
version_of key = is_version key.0 key.1

abbrev version_cmp : VersionKey → VersionKey → Ordering
version_cmp x y = ordering_then (nat_cmp x.component y.component) (nat_cmp x.version y.version)

abbrev of_component : ℕ → VersionRow → Bool
of_component component r = eqb r.component component

versions_are_noted : (known : Bool) (old new : BTreeMap VersionKey ℕ) (k : VersionKey) (place : ℕ) → Notes version_cmp known old new k place
    → Noted known (at_version old) (at_version new) (k.component, k.version) place
versions_are_noted known old new k place notes = noted (pair_cmp nat_cmp) (pairs_total nat_cmp nat_cmp_total) (pairs_exact nat_cmp exact_unsigned) (λ (x : VersionKey). (x.component, x.version)) known old new k place notes

pub versions_stale : (known : Bool) (old new : BTreeMap VersionKey ℕ) (counts after_counts : BTreeMap ℕ ℕ) (rows after : List VersionRow) (k : VersionKey) (place : ℕ) → after ≡ rows → Knows known (is_version k.component k.version) rows
    → Notes version_cmp known old new k place → after_counts.entries ≡ counts.entries → AreVersions old counts rows → AreVersions new after_counts after
versions_stale known old new counts after_counts rows after k place is knows notes same versions = subst (AreVersions new after_counts) (sym is) (record {
  points = points_noted version_of known (at_version old) (at_version new) rows (k.component, k.version) place knows (versions_are_noted known old new k place notes) versions.points;
  counted = counts_same of_component (at_number counts) (at_number after_counts) rows (λ key. ap (λ (es : List (ℕ × ℕ)). lookup (is_at (nat_cmp key)) es) same) versions.counted;
  packages = versions.packages;
  few = versions.few;
})

pub versions_added : (known : Bool) (old new : BTreeMap VersionKey ℕ) (counts after_counts : BTreeMap ℕ ℕ) (rows after : List VersionRow) (k : VersionKey) (r : VersionRow) (place count : ℕ)
    → k.component ≡ r.component → k.version ≡ r.version → after ≡ rows ++ r ∷ [] → place ≡ length rows → place < 4294967295 → Knows known (is_version k.component k.version) rows → Notes version_cmp known old new k place
    → count ≡ length (filter (of_component r.component) rows) → Updates nat_cmp counts after_counts r.component (Some (count + 1)) → IsPackageOf r.component r.version r.bytes
    → AreVersions old counts rows → AreVersions new after_counts after
versions_added known old new counts after_counts rows after k r place count component version is last low knows notes counted updates sound versions = subst (AreVersions new after_counts) (sym is) (record {
  points = points_added version_of known (at_version old) (at_version new) rows (rows ++ r ∷ []) (k.component, k.version) r place only (λ i. rows ++ r ∷ []) last knows (versions_are_noted known old new k place notes) versions.points;
  counted = counts_push of_component (at_number counts) (at_number after_counts) rows r.component r (λ key passes. sym (eqb-true r.component key passes)) (eq-eqb r.component r.component (λ i. r.component))
      (updates.1 ∙ ap (λ (n : ℕ). Some (n + 1)) (counted ∙ sym (versions.counted r.component)))
      (λ key apart. others_stay nat_cmp nat_cmp_total exact_unsigned (λ (x : ℕ). x) r.component counts after_counts (Some (count + 1)) updates key apart) versions.counted;
  packages = All-push (λ x. IsPackageOf x.component x.version x.bytes) rows r versions.packages sound;
  few = omega (arith, last, low, length-append rows (r ∷ []));
})
  where
    only : (key : ℕ × ℕ) → version_of key r ≡ true → key ≡ (k.component, k.version)
    only key passes =
        let tests = and_parts (eqb r.component key.0) (eqb r.version key.1) passes in
        let one = sym (eqb-true r.component key.0 tests.0) ∙ sym component in
        let two = sym (eqb-true r.version key.1 tests.1) ∙ sym version in
        λ i. (one i, two i)

-- ---- releases

abbrev release_of : (List ℕ × ℕ) → ReleaseRow → Bool
release_of key = is_release key.0 key.1

abbrev release_cmp : ReleaseKey → ReleaseKey → Ordering
release_cmp x y = ordering_then (slice_cmp nat_cmp x.mote.items y.mote.items) (nat_cmp x.number y.number)

abbrev for_mote : List ℕ → ReleaseRow → Bool
for_mote mote r = bytes_eq mote r.mote

releases_are_noted : (known : Bool) (old new : BTreeMap ReleaseKey ℕ) (k : ReleaseKey) (place : ℕ) → Notes release_cmp known old new k place → Noted known (at_release old) (at_release new) (k.mote.items, k.number) place
releases_are_noted known old new k place notes =
    noted (pair_cmp (slice_cmp nat_cmp)) (pairs_total (slice_cmp nat_cmp) nat_list_cmp_total) (pairs_exact (slice_cmp nat_cmp) exact_bytes) (λ (x : ReleaseKey). (x.mote.items, x.number)) known old new k place notes

module _ {A : Type 0} where
  pub releases_stale : (known : Bool) (old new : BTreeMap ReleaseKey ℕ) (counts after_counts : BTreeMap (Vec ℕ A) ℕ) (rows after : List ReleaseRow) (k : ReleaseKey) (place : ℕ) → after ≡ rows
      → Knows known (is_release k.mote.items k.number) rows → Notes release_cmp known old new k place → after_counts.entries ≡ counts.entries → AreReleases old counts rows → AreReleases new after_counts after
  releases_stale known old new counts after_counts rows after k place is knows notes same releases = subst (AreReleases new after_counts) (sym is) (record {
    points = points_noted release_of known (at_release old) (at_release new) rows (k.mote.items, k.number) place knows (releases_are_noted known old new k place notes) releases.points;
    counted = counts_same for_mote (at_name counts) (at_name after_counts) rows (λ key. ap (λ (es : List (Vec ℕ A × ℕ)). lookup (is_at (λ x. slice_cmp nat_cmp key x.items)) es) same) releases.counted;
    parts = releases.parts;
    few = releases.few;
  })

  pub releases_added : (known : Bool) (old new : BTreeMap ReleaseKey ℕ) (counts after_counts : BTreeMap (Vec ℕ A) ℕ) (rows after : List ReleaseRow) (k : ReleaseKey) (name : Vec ℕ A) (r : ReleaseRow) (place count : ℕ)
      → k.mote.items ≡ r.mote → k.number ≡ r.number → name.items ≡ r.mote → after ≡ rows ++ r ∷ [] → place ≡ length rows → place < 4294967295 → Knows known (is_release k.mote.items k.number) rows
      → Notes release_cmp known old new k place → count ≡ length (filter (for_mote r.mote) rows) → Updates (λ x y. slice_cmp nat_cmp x.items y.items) counts after_counts name (Some (count + 1)) → IsPartList r.parts
      → AreReleases old counts rows → AreReleases new after_counts after
  releases_added known old new counts after_counts rows after k name r place count mote number named is last low knows notes counted updates parts releases = subst (AreReleases new after_counts) (sym is) (record {
    points = points_added release_of known (at_release old) (at_release new) rows (rows ++ r ∷ []) (k.mote.items, k.number) r place only (λ i. rows ++ r ∷ []) last knows (releases_are_noted known old new k place notes) releases.points;
    counted = counts_push for_mote (at_name counts) (at_name after_counts) rows name.items r (λ key passes. (bytes_decides key r.mote).0 passes ∙ sym named) ((bytes_decides name.items r.mote).1 named)
        (updates.1 ∙ ap (λ (n : ℕ). Some (n + 1)) (counted ∙ sym (releases.counted r.mote) ∙ ap (λ (l : List ℕ). unwrap_or (at_name counts l) 0) (sym named)))
        (λ key apart. others_stay (slice_cmp nat_cmp) nat_list_cmp_total exact_bytes (λ (x : Vec ℕ A). x.items) name.items counts after_counts (Some (count + 1)) updates key apart) releases.counted;
    parts = All-push (λ x. IsPartList x.parts) rows r releases.parts parts;
    few = omega (arith, last, low, length-append rows (r ∷ []));
  })
    where
      only : (key : List ℕ × ℕ) → release_of key r ≡ true → key ≡ (k.mote.items, k.number)
      only key passes =
          let tests = and_parts (bytes_eq key.0 r.mote) (eqb r.number key.1) passes in
          let one = (bytes_decides key.0 r.mote).0 tests.0 ∙ sym mote in
          let two = sym (eqb-true r.number key.1 tests.1) ∙ sym number in
          λ i. (one i, two i)
