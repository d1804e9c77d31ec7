-- Rows that are found by an index, and rows that are counted: what a look-up shows, and what a change of the rows leaves.
use Rattle.std.proofs.Common.{◌≡◌, ◌≢◌, ⊎_elim, ℕ, ◌+◌, ◌<◌, ◌≤◌, Bool, true, false, cond, eqb, ltb, not, List, [], ◌∷◌, ◌++◌, length, take, drop, get_or, set, Option, Some, None, is_some, refl, sym, ap, ◌∙◌, subst, arith, length-append, length-set}
use Rattle.std.specs.Prelude.{unwrap_or, slice_get}
use Rattle.std.specs.Option.{option_copied}
use denote.Ref.{Bor}
use Rattle.std.specs.List.{All, filter, find, position, position_or_len}
use Rattle.std.proofs.lemmas.Bool.{cases_Bool, cases_lt, cond-true, cond-false, eq-eqb, ne_eqb, lt-ltb, le-ltb, both_ways, false≢true}
use Rattle.std.proofs.lemmas.Option.{same_Some, slice_get-get_or, slice_get_past, slice_get_cases, get_or_from_slice_get, slice_get_within}
use Rattle.std.proofs.lemmas.List.{length-take, take-append-drop}
use Rattle.std.proofs.lemmas.List.Folds.{find_at, position_or_len_push, position_or_len-set, prefix_len-append}
use Rattle.std.proofs.lemmas.List.Sums.{prefix_len-le-length, fails_before_first, passes_at_first}
use Rattle.std.proofs.lemmas.List.Elements.{filter-append}
use Rattle.release_keeper.specs.Index.{PointsAt, CountsRows, AreIndexed}

-- ---- the first row that passes

module _ {Row : Type 0} (p : Row → Bool) where
  most : (rows : List Row) → position_or_len p rows ≤ length rows
  most rows = prefix_len-le-length (λ x. not (p x)) rows

  -- it stays where a row comes behind it
  stays : (rows : List Row) (r : Row) → position_or_len p rows < length rows → position_or_len p (rows ++ r ∷ []) ≡ position_or_len p rows
  stays rows r within = position_or_len_push p rows r ∙ cond-false (eqb (position_or_len p rows) (length rows)) _ _ (ne_eqb (position_or_len p rows) (length rows) (λ e. omega (arith, e, within)))

  -- else it is the new row, or there still is none
  comes : (rows : List Row) (r : Row) → position_or_len p rows ≡ length rows → p r ≡ true → position_or_len p (rows ++ r ∷ []) ≡ length rows
  comes rows r none passes =
      position_or_len_push p rows r ∙ cond-true (eqb (position_or_len p rows) (length rows)) _ _ (eq-eqb (position_or_len p rows) (length rows) none)
      ∙ ap (λ (n : ℕ). length rows + n) (cond-true (p r) 0 1 passes) ∙ omega arith

  misses : (rows : List Row) (r : Row) → position_or_len p rows ≡ length rows → p r ≡ false → position_or_len p (rows ++ r ∷ []) ≡ length rows + 1
  misses rows r none fails =
      position_or_len_push p rows r ∙ cond-true (eqb (position_or_len p rows) (length rows)) _ _ (eq-eqb (position_or_len p rows) (length rows) none)
      ∙ ap (λ (n : ℕ). length rows + n) (cond-false (p r) 0 1 fails)

  -- a row that passes has none before it that is first
  none_later : (rows : List Row) (i : ℕ) (d : Row) → p (get_or rows i d) ≡ true → position_or_len p rows ≤ i
  none_later rows i d passes = ⊎_elim (λ late. absurd (both_ways (p (get_or rows i d)) (fails_before_first p rows i d late) passes)) (λ most. most) (cases_lt i (position_or_len p rows))

  -- what a search answers
  pub position_none : (rows : List Row) → position_or_len p rows ≡ length rows → position p rows ≡ None
  position_none rows none = cond-false (ltb (position_or_len p rows) (length rows)) _ _ (le-ltb (position_or_len p rows) (length rows) (omega (arith, none)))

  pub position_some : (rows : List Row) (i : ℕ) → position_or_len p rows ≡ i → i < length rows → position p rows ≡ Some i
  position_some rows i is within = cond-true (ltb (position_or_len p rows) (length rows)) _ _ (lt-ltb (position_or_len p rows) (length rows) (omega (arith, is, within))) ∙ ap Some is

-- whether a row passes is known
pub record Knows {Row : Type 0} (known : Bool) (p : Row → Bool) (rows : List Row) : Type 0 where
  pub present : known ≡ true → position_or_len p rows < length rows
  pub absent : known ≡ false → position_or_len p rows ≡ length rows

knows_by : {Row : Type 0} (known : Bool) (p : Row → Bool) (rows : List Row) → (position_or_len p rows < length rows → known ≡ true) → (length rows ≤ position_or_len p rows → known ≡ false) → Knows known p rows
knows_by known p rows inside outside = record {
  present = λ t. ⊎_elim (λ lt. lt) (λ le. absurd (both_ways known (outside le) t)) (cases_lt (position_or_len p rows) (length rows));
  absent = λ f. ⊎_elim (λ lt. absurd (both_ways known f (inside lt))) (λ le. omega (arith, le, most p rows)) (cases_lt (position_or_len p rows) (length rows));
}

-- by a search for the place
pub knows_place : {Row : Type 0} (known : Bool) (p : Row → Bool) (rows : List Row) (o : Option ℕ) → known ≡ is_some o → o ≡ position p rows → Knows known p rows
knows_place known p rows o is place = knows_by known p rows
    (λ lt. is ∙ ap (λ (x : Option ℕ). is_some x) (place ∙ position_some p rows (position_or_len p rows) refl lt))
    (λ le. is ∙ ap (λ (x : Option ℕ). is_some x) (place ∙ position_none p rows (omega (arith, le, most p rows))))

copied_some : {X : Type 0} (o : Option (Bor X)) → is_some (option_copied o) ≡ is_some o
copied_some None = refl
copied_some (Some x) = refl

-- by a search for the row
pub knows_row : {Row : Type 0} (known : Bool) (p : Row → Bool) (rows : List Row) (o : Option (Bor Row)) → known ≡ is_some o → option_copied o ≡ find p rows → Knows known p rows
knows_row {Row} known p rows o is row = knows_by known p rows
    (λ lt. here ∙ ⊎_elim (λ x. ap (λ (y : Option Row). is_some y) x.2) (λ past. absurd (omega (arith, lt, past.0))) (slice_get_cases rows (position_or_len p rows)).1)
    (λ le. here ∙ ap (λ (y : Option Row). is_some y) (slice_get_past rows (position_or_len p rows) le))
  where
    here : known ≡ is_some (slice_get rows (position_or_len p rows))
    here = is ∙ sym (copied_some o) ∙ ap (λ (y : Option Row). is_some y) (row ∙ find_at p rows)

-- what an index has after a place was noted, unless the key was known
pub record Noted {Key : Type 0} (known : Bool) (old new : Key → Option ℕ) (k : Key) (place : ℕ) : Type 0 where
  pub same : known ≡ true → (key : Key) → new key ≡ old key
  pub here : known ≡ false → new k ≡ Some place
  pub others : known ≡ false → (key : Key) → key ≢ k → new key ≡ old key

-- ---- rows with an index

module _ {Key Row : Type 0} (same : Key → Row → Bool) where
  pub points_none : (index : Key → Option ℕ) → PointsAt same index []
  points_none index key within = absurd (omega arith)

  -- the first rows
  pub points_take : (index : Key → Option ℕ) (n : ℕ) (rows : List Row) → PointsAt same index rows → PointsAt same index (take n rows)
  points_take index n rows points key within =
      let here : ℕ = position_or_len (same key) (take n rows) in
      let whole : take n rows ++ drop n rows ≡ rows = take-append-drop n rows in
      let first : position_or_len (same key) (take n rows ++ drop n rows) ≡ here =
      prefix_len-append (λ x. not (same key x)) (take n rows) (drop n rows)
      ∙ cond-false (eqb here (length (take n rows))) _ _ (ne_eqb here (length (take n rows)) (λ e. omega (arith, e, within))) in
      let is : position_or_len (same key) rows ≡ here = ap (λ (l : List Row). position_or_len (same key) l) (sym whole) ∙ first in
      points key (omega (arith, is, within, length-take n rows)) ∙ ap Some is

  -- a row in the place of one with the same keys
  pub points_set : (index : Key → Option ℕ) (rows : List Row) (i : ℕ) (r d : Row) → ((key : Key) → same key r ≡ same key (get_or rows i d)) → PointsAt same index rows → PointsAt same index (set rows i r)
  points_set index rows i r d alike points key within =
      let is : position_or_len (same key) (set rows i r) ≡ position_or_len (same key) rows = position_or_len-set (same key) rows i r d (alike key) in
      points key (omega (arith, is, within, length-set rows i r)) ∙ ap Some (sym is)

  -- the index has a new place at a key that no row has
  pub points_stale : (old new : Key → Option ℕ) (rows : List Row) (k : Key) → position_or_len (same k) rows ≡ length rows → ((key : Key) → key ≢ k → new key ≡ old key) → PointsAt same old rows → PointsAt same new rows
  points_stale old new rows k none others points key within =
      others key (λ e. omega (arith, within, none, ap (λ (x : Key). position_or_len (same x) rows) e)) ∙ points key within

  -- a row of a key that a row has
  pub points_known : (index : Key → Option ℕ) (rows : List Row) (k : Key) (r : Row) → ((key : Key) → same key r ≡ true → key ≡ k) → position_or_len (same k) rows < length rows → PointsAt same index rows
      → PointsAt same index (rows ++ r ∷ [])
  points_known index rows k r only there points key within =
      ⊎_elim
      (λ inside. points key inside ∙ ap Some (sym (stays (same key) rows r inside)))
      (λ outside. let none : position_or_len (same key) rows ≡ length rows = omega (arith, outside, most (same key) rows) in ⊎_elim
      (λ passes. absurd (omega (arith, none, there, ap (λ (x : Key). position_or_len (same x) rows) (only key passes))))
      (λ fails. absurd (omega (arith, within, misses (same key) rows r none fails, length-append rows (r ∷ []))))
      (cases_Bool (same key r)))
      (cases_lt (position_or_len (same key) rows) (length rows))

  -- a row of a new key, whose place the index has
  pub points_new : (index : Key → Option ℕ) (rows : List Row) (k : Key) (r : Row) → ((key : Key) → same key r ≡ true → key ≡ k) → index k ≡ Some (length rows) → PointsAt same index rows
      → PointsAt same index (rows ++ r ∷ [])
  points_new index rows k r only here points key within =
      ⊎_elim
      (λ inside. points key inside ∙ ap Some (sym (stays (same key) rows r inside)))
      (λ outside. let none : position_or_len (same key) rows ≡ length rows = omega (arith, outside, most (same key) rows) in ⊎_elim
      (λ passes. ap index (only key passes) ∙ here ∙ ap Some (sym (comes (same key) rows r none passes)))
      (λ fails. absurd (omega (arith, within, misses (same key) rows r none fails, length-append rows (r ∷ []))))
      (cases_Bool (same key r)))
      (cases_lt (position_or_len (same key) rows) (length rows))

  -- the same where a place was noted: before its row comes, and then
  pub points_same : (old new : Key → Option ℕ) (rows : List Row) → ((key : Key) → new key ≡ old key) → PointsAt same old rows → PointsAt same new rows
  points_same old new rows alike points key within = alike key ∙ points key within

  pub points_noted : (known : Bool) (old new : Key → Option ℕ) (rows : List Row) (k : Key) (place : ℕ) → Knows known (same k) rows → Noted known old new k place → PointsAt same old rows → PointsAt same new rows
  points_noted known old new rows k place knows noted points =
      ⊎_elim (λ t. points_same old new rows (noted.same t) points) (λ f. points_stale old new rows k (knows.absent f) (noted.others f) points) (cases_Bool known)

  pub points_added : (known : Bool) (old new : Key → Option ℕ) (rows after : List Row) (k : Key) (r : Row) (place : ℕ) → ((key : Key) → same key r ≡ true → key ≡ k) → after ≡ rows ++ r ∷ [] → place ≡ length rows
      → Knows known (same k) rows → Noted known old new k place → PointsAt same old rows → PointsAt same new after
  points_added known old new rows after k r place only is last knows noted points =
      subst (PointsAt same new) (sym is)
      (⊎_elim
      (λ t. points_known new rows k r only (knows.present t) (points_same old new rows (noted.same t) points))
      (λ f. points_new new rows k r only (noted.here f ∙ ap Some last) (points_stale old new rows k (knows.absent f) (noted.others f) points))
      (cases_Bool known))

  pub indexed_added : (known : Bool) (old new : Key → Option ℕ) (rows after : List Row) (k : Key) (r : Row) (place : ℕ) → ((key : Key) → same key r ≡ true → key ≡ k) → after ≡ rows ++ r ∷ [] → place ≡ length rows
      → place < 4294967295 → Knows known (same k) rows → Noted known old new k place → AreIndexed same old rows → AreIndexed same new after
  indexed_added known old new rows after k r place only is last low knows noted indexed = record {
    points = points_added known old new rows after k r place only is last knows noted indexed.points;
    few = omega (arith, last, low, ap (λ (l : List Row). length l) is, length-append rows (r ∷ []));
  }

  pub indexed_take : (index : Key → Option ℕ) (n : ℕ) (rows after : List Row) → after ≡ take n rows → AreIndexed same index rows → AreIndexed same index after
  indexed_take index n rows after is indexed = subst (AreIndexed same index) (sym is) (record { points = points_take index n rows indexed.points; few = omega (arith, length-take n rows, indexed.few) })

  -- ---- look-ups

  -- the index has nothing
  pub none_there : (index : Key → Option ℕ) (rows : List Row) (key : Key) → PointsAt same index rows → index key ≡ None → position_or_len (same key) rows ≡ length rows
  none_there index rows key points none =
      ⊎_elim (λ inside. absurd (let found = sym none ∙ points key inside in cc)) (λ outside. omega (arith, outside, most (same key) rows)) (cases_lt (position_or_len (same key) rows) (length rows))

  -- what it has is past the rows, or another row
  pub other_there : (index : Key → Option ℕ) (rows : List Row) (key : Key) (i : ℕ) (d : Row) → PointsAt same index rows → index key ≡ Some i → (i < length rows → same key (get_or rows i d) ≡ false)
      → position_or_len (same key) rows ≡ length rows
  other_there index rows key i d points is other =
      ⊎_elim
      (λ inside. let place : position_or_len (same key) rows ≡ i = same_Some _ _ (sym (points key inside) ∙ is) in
      absurd (both_ways (same key (get_or rows i d)) (other (omega (arith, place, inside))) (subst (λ (n : ℕ). same key (get_or rows n d) ≡ true) place (passes_at_first (same key) rows d inside))))
      (λ outside. omega (arith, outside, most (same key) rows))
      (cases_lt (position_or_len (same key) rows) (length rows))

  -- it is the first row with this key
  pub this_there : (index : Key → Option ℕ) (rows : List Row) (key : Key) (i : ℕ) (d : Row) → PointsAt same index rows → index key ≡ Some i → i < length rows → same key (get_or rows i d) ≡ true
      → position_or_len (same key) rows ≡ i
  this_there index rows key i d points is within passes =
      let least : position_or_len (same key) rows ≤ i = none_later (same key) rows i d passes in
      same_Some _ _ (sym (points key (omega (arith, least, within))) ∙ is)

  -- ---- the same as answers, of a place and of a row

  pub no_place : (index : Key → Option ℕ) (rows : List Row) (key : Key) → PointsAt same index rows → None ≡ index key → None ≡ position (same key) rows
  no_place index rows key points none = sym (position_none (same key) rows (none_there index rows key points (sym none)))

  past_there : (index : Key → Option ℕ) (rows : List Row) (key : Key) (i : ℕ) → PointsAt same index rows → index key ≡ Some i → length rows ≤ i → position_or_len (same key) rows ≡ length rows
  past_there index rows key i points is past =
      ⊎_elim
      (λ inside. let place : position_or_len (same key) rows ≡ i = same_Some _ _ (sym (points key inside) ∙ is) in absurd (omega (arith, place, inside, past)))
      (λ outside. omega (arith, outside, most (same key) rows))
      (cases_lt (position_or_len (same key) rows) (length rows))

  pub past_place : (index : Key → Option ℕ) (rows xs : List Row) (key : Key) (i : ℕ) → PointsAt same index rows → Some i ≡ index key → xs ≡ rows → length xs ≤ i → None ≡ position (same key) rows
  past_place index rows xs key i points is all past =
      sym (position_none (same key) rows (past_there index rows key i points (sym is) (omega (arith, past, ap (λ (l : List Row). length l) all))))

  pub other_place : (index : Key → Option ℕ) (rows xs : List Row) (key : Key) (i : ℕ) (r : Row) → PointsAt same index rows → Some i ≡ index key → xs ≡ rows → r ≡ get_or xs i r → same key r ≡ false
      → None ≡ position (same key) rows
  other_place index rows xs key i r points is all here other =
      sym (position_none (same key) rows (other_there index rows key i r points (sym is) (λ within. ap (λ (l : List Row). same key (get_or l i r)) (sym all) ∙ ap (same key) (sym here) ∙ other)))

  pub this_place : (index : Key → Option ℕ) (rows xs : List Row) (key : Key) (i : ℕ) (r : Row) → PointsAt same index rows → Some i ≡ index key → xs ≡ rows → i < length xs → r ≡ get_or xs i r → same key r ≡ true
      → Some i ≡ position (same key) rows
  this_place index rows xs key i r points is all within here passes =
      let inside : i < length rows = omega (arith, within, ap (λ (l : List Row). length l) all) in
      sym (position_some (same key) rows i
      (this_there index rows key i r points (sym is) inside (ap (λ (l : List Row). same key (get_or l i r)) (sym all) ∙ ap (same key) (sym here) ∙ passes)) inside)

  none_found : (rows : List Row) (key : Key) → position_or_len (same key) rows ≡ length rows → None ≡ find (same key) rows
  none_found rows key none = sym (find_at (same key) rows ∙ ap (slice_get rows) none ∙ slice_get_past rows (length rows) (omega arith))

  pub no_row : (index : Key → Option ℕ) (rows : List Row) (key : Key) → PointsAt same index rows → None ≡ index key → None ≡ find (same key) rows
  no_row index rows key points none = none_found rows key (none_there index rows key points (sym none))

  pub past_row : (index : Key → Option ℕ) (rows xs : List Row) (key : Key) (i : ℕ) → PointsAt same index rows → Some i ≡ index key → xs ≡ rows → length xs ≤ i → None ≡ find (same key) rows
  past_row index rows xs key i points is all past =
      none_found rows key (past_there index rows key i points (sym is) (omega (arith, past, ap (λ (l : List Row). length l) all)))

  pub other_row : (index : Key → Option ℕ) (rows xs : List Row) (key : Key) (i : ℕ) (r : Row) → PointsAt same index rows → Some i ≡ index key → xs ≡ rows → r ≡ get_or xs i r → same key r ≡ false
      → None ≡ find (same key) rows
  other_row index rows xs key i r points is all here other =
      none_found rows key (other_there index rows key i r points (sym is) (λ within. ap (λ (l : List Row). same key (get_or l i r)) (sym all) ∙ ap (same key) (sym here) ∙ other))

  pub this_row : (index : Key → Option ℕ) (rows xs : List Row) (key : Key) (i : ℕ) (r : Row) → PointsAt same index rows → Some i ≡ index key → xs ≡ rows → i < length xs → r ≡ get_or xs i r → same key r ≡ true
      → Some r ≡ find (same key) rows
  this_row index rows xs key i r points is all within here passes =
      let inside : i < length rows = omega (arith, within, ap (λ (l : List Row). length l) all) in
      let place = this_there index rows key i r points (sym is) inside (ap (λ (l : List Row). same key (get_or l i r)) (sym all) ∙ ap (same key) (sym here) ∙ passes) in
      sym (find_at (same key) rows ∙ ap (slice_get rows) place ∙ slice_get-get_or rows i r inside ∙ ap Some (ap (λ (l : List Row). get_or l i r) (sym all) ∙ sym here))

  -- ---- counts

  pub counts_same : (old new : Key → Option ℕ) (rows : List Row) → ((key : Key) → new key ≡ old key) → CountsRows same old rows → CountsRows same new rows
  counts_same old new rows alike counts key = ap (λ (o : Option ℕ). unwrap_or o 0) (alike key) ∙ counts key

  pub counts_push : (old new : Key → Option ℕ) (rows : List Row) (k : Key) (r : Row) → ((key : Key) → same key r ≡ true → key ≡ k) → same k r ≡ true → new k ≡ Some (unwrap_or (old k) 0 + 1)
      → ((key : Key) → key ≢ k → new key ≡ old key) → CountsRows same old rows → CountsRows same new (rows ++ r ∷ [])
  counts_push old new rows k r only own here others counts key =
      ⊎_elim
      (λ passes.
      ap (λ (x : Key). unwrap_or (new x) 0) (only key passes) ∙ ap (λ (o : Option ℕ). unwrap_or o 0) here ∙ ap (λ (x : Key). unwrap_or (old x) 0 + 1) (sym (only key passes))
      ∙ ap (λ (n : ℕ). n + 1) (counts key) ∙ sym (more key ∙ ap (λ (l : List Row). length (filter (same key) rows) + length l) (cond-true (same key r) (r ∷ []) [] passes)))
      (λ fails.
      ap (λ (o : Option ℕ). unwrap_or o 0) (others key (λ e. absurd (both_ways (same key r) fails (ap (λ (x : Key). same x r) e ∙ own))))
      ∙ counts key ∙ sym (more key ∙ ap (λ (l : List Row). length (filter (same key) rows) + length l) (cond-false (same key r) (r ∷ []) [] fails) ∙ omega arith))
      (cases_Bool (same key r))
    where
      more : (key : Key) → length (filter (same key) (rows ++ r ∷ [])) ≡ length (filter (same key) rows) + length (filter (same key) (r ∷ []))
      more key = ap (λ (l : List Row). length l) (filter-append (same key) rows (r ∷ [])) ∙ length-append (filter (same key) rows) (filter (same key) (r ∷ []))

-- ---- a row by its place

module _ {Row : Type 0} (p : Row → Bool) (rows : List Row) where
  pub row_none : None ≡ position p rows → None ≡ find p rows
  row_none none =
      ⊎_elim
      (λ inside. absurd (let is = none ∙ position_some p rows (position_or_len p rows) refl inside in cc))
      (λ outside. sym (find_at p rows ∙ slice_get_past rows (position_or_len p rows) outside))
      (cases_lt (position_or_len p rows) (length rows))

  pub row_at : (i : ℕ) (r : Row) → Some i ≡ position p rows → r ≡ get_or rows i r → Some r ≡ find p rows
  row_at i r some here =
      ⊎_elim
      (λ inside. let place : i ≡ position_or_len p rows = same_Some _ _ (some ∙ position_some p rows (position_or_len p rows) refl inside) in
      sym (find_at p rows ∙ ap (slice_get rows) (sym place) ∙ slice_get-get_or rows i r (omega (arith, place, inside)) ∙ ap Some (sym here)))
      (λ outside. absurd (let is = some ∙ position_none p rows (omega (arith, outside, most p rows)) in cc))
      (cases_lt (position_or_len p rows) (length rows))

-- ---- look-ups by an index, where the row in a place is looked up

module _ {Key Row : Type 0} (same : Key → Row → Bool) (index : Key → Option ℕ) (rows : List Row) (key : Key) (i : ℕ) (points : PointsAt same index rows) (is : Some i ≡ index key) where
  pub past_found : None ≡ slice_get rows i → None ≡ find (same key) rows
  past_found none =
      ⊎_elim (λ x. absurd (let some = none ∙ x.2 in cc)) (λ past. past_row same index rows rows key i points is refl past.0) (slice_get_cases rows i).1

  pub other_found : (r : Row) → Some r ≡ slice_get rows i → same key r ≡ false → None ≡ find (same key) rows
  other_found r some other = other_row same index rows rows key i r points is refl (sym (get_or_from_slice_get rows i r r (sym some))) other

  pub this_found : (r : Row) → Some r ≡ slice_get rows i → same key r ≡ true → Some r ≡ find (same key) rows
  this_found r some passes = this_row same index rows rows key i r points is refl (slice_get_within rows i r (sym some)) (sym (get_or_from_slice_get rows i r r (sym some))) passes

-- what holds of each row holds of the row that is looked up
pub all_at : {Row : Type 0} (P : Row → Type 0) (rows xs : List Row) (i : ℕ) (r : Row) → All P rows → xs ≡ rows → i < length xs → r ≡ get_or xs i r → P r
all_at {Row} P rows xs i r holds is within here =
    subst P (sym (here ∙ ap (λ (l : List Row). get_or l i r) is)) (holds i r (omega (arith, within, ap (λ (l : List Row). length l) is)))
