-- What motes said, with one word more.
use Rattle.std.proofs.Common.{◌≡◌, ⊎_elim, ℕ, suc, ◌+◌, ◌<◌, ◌≤◌, Bool, true, false, not, List, [], ◌∷◌, ◌++◌, length, get_or, set, Some, None, refl, sym, ap, ◌∙◌, arith}
use Rattle.std.specs.Prelude.{bytes_eq}
use Rattle.std.specs.List.{position, position_or_len}
use Rattle.std.specs.Cmp.Lexicographic.{bytes_decides}
use Rattle.std.proofs.lemmas.Bool.{cond-true, cond-false, cases_lt}
use Rattle.std.proofs.lemmas.Option.{same_Some}
use Rattle.std.proofs.lemmas.List.Sums.{prefix_len-le-length}
use Rattle.std.proofs.lemmas.List.Quantifiers.{position-Some}
use Rattle.release_keeper.proofs.Index.{position_none, position_some}
use Rattle.release_rows.specs.declared.row.AckRow.{AckRow}
use Rattle.release_rows.specs.Change.{with_ack}

module _ (mote : List ℕ) (n : ℕ) where
  abbrev pub by_mote : AckRow → Bool
  by_mote r = bytes_eq mote r.mote

  abbrev pub word : AckRow
  word = record { mote = mote; number = n }

  here_first : (r : AckRow) (rs : List AckRow) → by_mote r ≡ true → position_or_len by_mote (r ∷ rs) ≡ 0
  here_first r rs is = cond-false (not (by_mote r)) _ _ (ap not is)

  there_first : (r : AckRow) (rs : List AckRow) → by_mote r ≡ false → position_or_len by_mote (r ∷ rs) ≡ suc (position_or_len by_mote rs)
  there_first r rs is = cond-true (not (by_mote r)) _ _ (ap not is) ∙ omega arith

  pub ack_set : (rows : List AckRow) → position_or_len by_mote rows < length rows → with_ack rows mote n ≡ set rows (position_or_len by_mote rows) word
  ack_set [] within = absurd (omega arith)
  ack_set (r ∷ rs) within = by (by_mote r) refl (λ later. ack_set rs later)
    where
      by : (b : Bool) → by_mote r ≡ b → (position_or_len by_mote rs < length rs → with_ack rs mote n ≡ set rs (position_or_len by_mote rs) word)
          → with_ack (r ∷ rs) mote n ≡ set (r ∷ rs) (position_or_len by_mote (r ∷ rs)) word
      by true is later = cond-true _ _ _ is ∙ ap (λ (k : ℕ). set (r ∷ rs) k word) (sym (here_first r rs is))
      by false is later =
          cond-false _ _ _ is ∙ ap (λ (l : List AckRow). r ∷ l) (later (omega (arith, within, there_first r rs is)))
          ∙ ap (λ (k : ℕ). set (r ∷ rs) k word) (sym (there_first r rs is))

  pub ack_added : (rows : List AckRow) → position_or_len by_mote rows ≡ length rows → with_ack rows mote n ≡ rows ++ word ∷ []
  ack_added [] none = refl
  ack_added (r ∷ rs) none = by (by_mote r) refl (λ later. ack_added rs later)
    where
      by : (b : Bool) → by_mote r ≡ b → (position_or_len by_mote rs ≡ length rs → with_ack rs mote n ≡ rs ++ word ∷ []) → with_ack (r ∷ rs) mote n ≡ (r ∷ rs) ++ word ∷ []
      by true is later = absurd (omega (arith, none, here_first r rs is))
      by false is later = cond-false _ _ _ is ∙ ap (λ (l : List AckRow). r ∷ l) (later (omega (arith, none, there_first r rs is)))

-- ---- where a search found a row

module _ {Row : Type 0} (p : Row → Bool) (rows : List Row) where
  place_is : (i : ℕ) → Some i ≡ position p rows → (position_or_len p rows ≡ i) × (i < length rows)
  place_is i some =
      ⊎_elim
      (λ inside. let place : i ≡ position_or_len p rows = same_Some _ _ (some ∙ position_some p rows (position_or_len p rows) refl inside) in (sym place, omega (arith, place, inside)))
      (λ outside. absurd (let is = some ∙ position_none p rows (omega (arith, outside, prefix_len-le-length (λ x. not (p x)) rows)) in cc))
      (cases_lt (position_or_len p rows) (length rows))

  place_none : None ≡ position p rows → position_or_len p rows ≡ length rows
  place_none none =
      ⊎_elim
      (λ inside. absurd (let is = none ∙ position_some p rows (position_or_len p rows) refl inside in cc))
      (λ outside. omega (arith, outside, prefix_len-le-length (λ x. not (p x)) rows))
      (cases_lt (position_or_len p rows) (length rows))

module _ (mote : List ℕ) (n : ℕ) (rows : List AckRow) (name : List ℕ) (is : name ≡ mote) where
  found_by : position (λ r. bytes_eq name r.mote) rows ≡ position (by_mote mote n) rows
  found_by = ap (λ (l : List ℕ). position (λ (r : AckRow). bytes_eq l r.mote) rows) is

  -- the row that is found is the mote's
  pub ack_same : (i : ℕ) → Some i ≡ position (λ r. bytes_eq name r.mote) rows → (d : AckRow) → mote ≡ (get_or rows i d).mote
  ack_same i some d = (bytes_decides mote (get_or rows i d).mote).0 (position-Some (by_mote mote n) rows i d (sym (some ∙ found_by))).1

  -- its new word in its place
  pub ack_put : (i : ℕ) (row : AckRow) → row ≡ word mote n → Some i ≡ position (λ r. bytes_eq name r.mote) rows → set rows i row ≡ with_ack rows mote n
  ack_put i row same some =
      let place = place_is (by_mote mote n) rows i (some ∙ found_by) in
      ap (λ (r : AckRow). set rows i r) same ∙ ap (λ (k : ℕ). set rows k (word mote n)) (sym place.0) ∙ sym (ack_set mote n rows (omega (arith, place.0, place.1)))

  -- or behind the others
  pub ack_new : (row : AckRow) → row ≡ word mote n → None ≡ position (λ r. bytes_eq name r.mote) rows → rows ++ row ∷ [] ≡ with_ack rows mote n
  ack_new row same none = ap (λ (r : AckRow). rows ++ r ∷ []) same ∙ sym (ack_added mote n rows (place_none (by_mote mote n) rows (none ∙ found_by)))
