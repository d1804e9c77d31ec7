-- Rows that are found by an index, and rows that are counted. A test `same` says of a key and a row whether the row has that key.
use Rattle.std.specs.Prelude.{◌≡◌, ℕ, ◌<◌, ◌≤◌, Bool, true, false, List, length, Option, Some, unwrap_or, Vec}
use Rattle.std.specs.List.{filter, position_or_len}
use Rattle.std.specs.BTreeMap.{BTreeMap, get, get_by, Updates}
use Rattle.std.specs.Cmp.Lexicographic.{slice_cmp}
use Rattle.std.specs.declared.cmp.Ordering.{Ordering}
use Rattle.std.specs.Ordering.{nat_cmp}

-- The index has the place of the first row of each key that a row has. At another key it may have anything: a change that failed leaves
-- such places behind, so the row that an index names is compared.
abbrev pub PointsAt : {Key Row : Type 0} → (Key → Row → Bool) → (Key → Option ℕ) → List Row → Type 0
PointsAt {Key} same index rows = (key : Key) → position_or_len (same key) rows < length rows → index key ≡ Some (position_or_len (same key) rows)

-- the counts are of the rows of each key, none where there is no count
abbrev pub CountsRows : {Key Row : Type 0} → (Key → Row → Bool) → (Key → Option ℕ) → List Row → Type 0
CountsRows {Key} same counts rows = (key : Key) → unwrap_or (counts key) 0 ≡ length (filter (same key) rows)

-- what is known of rows with an index: it points at them, and there are no more than a u32 counts
pub record AreIndexed {Key Row : Type 0} (same : Key → Row → Bool) (index : Key → Option ℕ) (rows : List Row) : Type 0 where
  pub points : PointsAt same index rows
  pub few : length rows ≤ 4294967295

-- a key that isn't known has this place in the new map, and nothing else is changed
pub record Notes {K : Type 0} (cmp : K → K → Ordering) (known : Bool) (old new : BTreeMap K ℕ) (key : K) (place : ℕ) : Type 0 where
  pub same : known ≡ true → new.entries ≡ old.entries
  pub updates : known ≡ false → Updates cmp old new key (Some place)

-- what a map has at these bytes, and at this number
abbrev pub at_name : {X A : Type 0} → BTreeMap (Vec ℕ A) X → List ℕ → Option X
at_name m name = get_by (λ k. slice_cmp nat_cmp name k.items) m

abbrev pub at_number : {X : Type 0} → BTreeMap ℕ X → ℕ → Option X
at_number m number = get nat_cmp m number
