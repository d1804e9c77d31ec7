-- Numbers of an object's names: which rows are new, and what numbers there are.
use Rattle.std.proofs.Common.{◌≡◌, ◌⊎◌, ℕ, suc, ◌+◌, ◌<◌, ◌≤◌, Bool, true, false, cond, Option, Some, None, List, [], ◌∷◌, length, map, filter, refl, sym, ap, subst, ◌∙◌, arith, bytes_eq, unwrap_or, inl, inr}
use Rattle.std.specs.Prelude.{is_none, ◌||◌, ◌==◌, nat_le}
use Rattle.std.specs.List.{find, list_any, list_all, range_with_len, AllByRecursion}
use Rattle.std.specs.Option.{option_map, option_or}
use Rattle.std.proofs.lemmas.Bool.{or_left, or_right, or_parts, and_parts, eq-eqb, leb-true}
use Rattle.object_packer.specs.Names.{number_in}
use Rattle.release_rows.specs.declared.row.SymbolRow.{SymbolRow}
use Rattle.release_rows.specs.Tables.{Tables, symbol_number}
use Rattle.release_rows.specs.Kept.{AreDifferent}
use Rattle.release_versions.specs.Versions.{free_after, named}
use Rattle.release_laws.proofs.Lists.{none_found, found_all, found_too, any_mapped, AreNew, row_of, different_kept, same_bytes, turned, all_with}

-- ---- the number of a name is 0, or what each number is

pub number_or_none : (P : ℕ → Type 0) (ns : List (List ℕ)) (numbers name : List ℕ) → AllByRecursion P numbers → (number_in ns numbers name ≡ 0) ⊎ P (number_in ns numbers name)
number_or_none P [] numbers name all = inl refl
number_or_none P (n ∷ ns) [] name all = inl refl
number_or_none P (n ∷ ns) (x ∷ xs) name all = from (bytes_eq n name) (number_or_none P ns xs name all.1)
  where
    from : (b : Bool) → (number_in ns xs name ≡ 0) ⊎ P (number_in ns xs name) → (cond b x (number_in ns xs name) ≡ 0) ⊎ P (cond b x (number_in ns xs name))
    from true rest = inr all.0
    from false rest = rest

pub high_all : (ns : List ℕ) → list_all (λ n. nat_le 16 n) ns ≡ true → AllByRecursion (λ n. 16 ≤ n) ns
high_all [] e = tt
high_all (n ∷ ns) e = let parts = and_parts (nat_le 16 n) (list_all (λ n. nat_le 16 n) ns) e in (leb-true 16 n parts.0, high_all ns parts.1)

-- ---- the rows of names

module _ (t : Tables) where
  abbrev pub is_new : SymbolRow → Bool
  is_new r = is_none (symbol_number t r.name)

  abbrev pub fresh : ℕ → List (List ℕ) → List SymbolRow
  fresh free ns = filter is_new (named t free ns)

  pub named_length : (free : ℕ) (ns : List (List ℕ)) → length (named t free ns) ≡ length ns
  named_length free [] = refl
  named_length free (n ∷ ns) = ap (λ k. suc k) (named_length (free_after free (symbol_number t n)) ns)

  -- new rows are numbered from the free number on
  pub fresh_numbered : (free : ℕ) (ns : List (List ℕ)) → map (λ r. r.number) (fresh free ns) ≡ range_with_len free (length (fresh free ns))
  fresh_numbered free [] = refl
  fresh_numbered free (n ∷ ns) = from (symbol_number t n) (fresh_numbered free ns) (fresh_numbered (free + 1) ns)
    where
      rows : Option ℕ → List SymbolRow
      rows o = cond (is_none o) (record { number = unwrap_or o free; name = n } ∷ fresh (free_after free o) ns) (fresh (free_after free o) ns)

      from : (o : Option ℕ) → map (λ r. r.number) (fresh free ns) ≡ range_with_len free (length (fresh free ns)) → map (λ r. r.number) (fresh (free + 1) ns) ≡ range_with_len (free + 1) (length (fresh (free + 1) ns))
          → map (λ r. r.number) (rows o) ≡ range_with_len free (length (rows o))
      from (Some k) same more = same
      from None same more = ap (λ (ks : List ℕ). free ∷ ks) more

  -- their names are the names without a number
  pub fresh_names : (free : ℕ) (ns : List (List ℕ)) → map (λ r. r.name) (fresh free ns) ≡ filter (λ n. is_none (symbol_number t n)) ns
  fresh_names free [] = refl
  fresh_names free (n ∷ ns) = from (symbol_number t n) (fresh_names free ns) (fresh_names (free + 1) ns)
    where
      rest : List (List ℕ)
      rest = filter (λ n. is_none (symbol_number t n)) ns

      from : (o : Option ℕ) → map (λ r. r.name) (fresh free ns) ≡ rest → map (λ r. r.name) (fresh (free + 1) ns) ≡ rest
          → map (λ r. r.name) (cond (is_none o) (record { number = unwrap_or o free; name = n } ∷ fresh (free_after free o) ns) (fresh (free_after free o) ns)) ≡ cond (is_none o) (n ∷ rest) rest
      from (Some k) same more = same
      from None same more = ap (λ (ms : List (List ℕ)). n ∷ ms) more

  no_number : (n : List ℕ) → is_none (symbol_number t n) ≡ true → list_any (bytes_eq n) (map (λ r. r.name) t.symbols) ≡ false
  no_number n none = any_mapped (bytes_eq n) (λ (r : SymbolRow). r.name) t.symbols ∙ none_found (λ (r : SymbolRow). bytes_eq n r.name) t.symbols (from (find (λ (r : SymbolRow). bytes_eq n r.name) t.symbols) none)
    where
      from : (o : Option SymbolRow) → is_none (option_map (λ (r : SymbolRow). r.number) o) ≡ true → o ≡ None
      from None e = refl
      from (Some r) e = absurd cc

  names_new : (ns : List (List ℕ)) → AreNew (map (λ r. r.name) t.symbols) (filter (λ n. is_none (symbol_number t n)) ns)
  names_new [] = tt
  names_new (n ∷ ns) = from (is_none (symbol_number t n)) refl (names_new ns)
    where
      rest : List (List ℕ)
      rest = filter (λ n. is_none (symbol_number t n)) ns

      from : (b : Bool) → is_none (symbol_number t n) ≡ b → AreNew (map (λ r. r.name) t.symbols) rest → AreNew (map (λ r. r.name) t.symbols) (cond b (n ∷ rest) rest)
      from true is later = (no_number n is, later)
      from false is later = later

  pub fresh_new : (free : ℕ) (ns : List (List ℕ)) → AreNew (map (λ r. r.name) t.symbols) (map (λ r. r.name) (fresh free ns))
  fresh_new free ns = subst (AreNew (map (λ r. r.name) t.symbols)) (sym (fresh_names free ns)) (names_new ns)

  pub fresh_different : (free : ℕ) (ns : List (List ℕ)) → AreDifferent ns → AreDifferent (map (λ r. r.name) (fresh free ns))
  fresh_different free ns d = subst AreDifferent (sym (fresh_names free ns)) (different_kept (λ n. is_none (symbol_number t n)) ns d)

  -- all numbers are below a limit where those of symbols are, and where the new ones end
  pub named_below : (limit : ℕ) → AllByRecursion (λ r. r.number < limit) t.symbols → (free : ℕ) (ns : List (List ℕ)) → free + length (fresh free ns) ≤ limit → AllByRecursion (λ r. r.number < limit) (named t free ns)
  named_below limit small free [] le = tt
  named_below limit small free (n ∷ ns) le = from (symbol_number t n) refl le (named_below limit small free ns) (named_below limit small (free + 1) ns)
    where
      rows : Option ℕ → List SymbolRow
      rows o = cond (is_none o) (record { number = unwrap_or o free; name = n } ∷ fresh (free_after free o) ns) (fresh (free_after free o) ns)

      known : (k : ℕ) → symbol_number t n ≡ Some k → k < limit
      known k is =
          let r = row_of (λ (r : SymbolRow). r.number) (find (λ (r : SymbolRow). bytes_eq n r.name) t.symbols) k is in
          subst (λ (m : ℕ). m < limit) r.2 (found_all (λ (r : SymbolRow). r.number < limit) (λ (r : SymbolRow). bytes_eq n r.name) t.symbols r.0 small r.1)

      from : (o : Option ℕ) → symbol_number t n ≡ o → free + length (rows o) ≤ limit
          → (free + length (fresh free ns) ≤ limit → AllByRecursion (λ r. r.number < limit) (named t free ns))
          → (free + 1 + length (fresh (free + 1) ns) ≤ limit → AllByRecursion (λ r. r.number < limit) (named t (free + 1) ns))
          → (unwrap_or o free < limit) × AllByRecursion (λ r. r.number < limit) (named t (free_after free o) ns)
      from (Some k) is le same more = (known k is, same le)
      from None is le same more = (omega (arith, le), more (omega (arith, le)))

  -- each row's number is a symbol's, or a new one's
  abbrev pub IsAmong : List SymbolRow → SymbolRow → Type 0
  IsAmong rows r = (list_any (λ s. s.number == r.number) t.symbols || list_any (λ s. s.number == r.number) rows) ≡ true

  among_more : (x : SymbolRow) (rows : List SymbolRow) (rs : List SymbolRow) → AllByRecursion (IsAmong rows) rs → AllByRecursion (IsAmong (x ∷ rows)) rs
  among_more x rows [] all = tt
  among_more x rows (r ∷ rs) all = (from (list_any (λ s. s.number == r.number) t.symbols) (x.number == r.number) (list_any (λ s. s.number == r.number) rows) all.0, among_more x rows rs all.1)
    where
      from : (a b c : Bool) → (a || c) ≡ true → (a || (b || c)) ≡ true
      from true b c e = refl
      from false true c e = refl
      from false false c e = e

  pub named_among : (free : ℕ) (ns : List (List ℕ)) → AllByRecursion (IsAmong (fresh free ns)) (named t free ns)
  named_among free [] = tt
  named_among free (n ∷ ns) = from (symbol_number t n) refl (named_among free ns) (named_among (free + 1) ns)
    where
      row : Option ℕ → SymbolRow
      row o = record { number = unwrap_or o free; name = n }

      rows : Option ℕ → List SymbolRow
      rows o = cond (is_none o) (row o ∷ fresh (free_after free o) ns) (fresh (free_after free o) ns)

      known : (k : ℕ) → symbol_number t n ≡ Some k → list_any (λ (s : SymbolRow). s.number == k) t.symbols ≡ true
      known k is =
          let r = row_of (λ (r : SymbolRow). r.number) (find (λ (r : SymbolRow). bytes_eq n r.name) t.symbols) k is in
          found_too (λ (r : SymbolRow). bytes_eq n r.name) (λ (s : SymbolRow). s.number == k) t.symbols r.0 r.1 (eq-eqb r.0.number k r.2)

      from : (o : Option ℕ) → symbol_number t n ≡ o → AllByRecursion (IsAmong (fresh free ns)) (named t free ns) → AllByRecursion (IsAmong (fresh (free + 1) ns)) (named t (free + 1) ns)
          → IsAmong (rows o) (row o) × AllByRecursion (IsAmong (rows o)) (named t (free_after free o) ns)
      from (Some k) is same more = (or_left (list_any (λ s. s.number == k) t.symbols) (list_any (λ s. s.number == k) (fresh free ns)) (known k is), same)
      from None is same more = (
        or_right (list_any (λ s. s.number == free) t.symbols) ((free == free) || list_any (λ s. s.number == free) (fresh (free + 1) ns))
            (or_left (free == free) (list_any (λ s. s.number == free) (fresh (free + 1) ns)) (eq-eqb free free refl)),
        among_more (row None) (fresh (free + 1) ns) (named t (free + 1) ns) more,
      )

  -- what is found under the name of a row is its number, where names differ
  abbrev pub number_found : List SymbolRow → List ℕ → Option ℕ
  number_found rows n = option_or (symbol_number t n) (option_map (λ r. r.number) (find (λ r. bytes_eq n r.name) rows))

  named_apart : (n : List ℕ) (free : ℕ) (ns : List (List ℕ)) → list_any (bytes_eq n) ns ≡ false → AllByRecursion (λ r. bytes_eq r.name n ≡ false) (named t free ns)
  named_apart n free [] e = tt
  named_apart n free (m ∷ ns) e = let parts = or_parts (bytes_eq n m) (list_any (bytes_eq n) ns) e in (turned m n ∙ parts.0, named_apart n (free_after free (symbol_number t m)) ns parts.1)

  pub named_found : (free : ℕ) (ns : List (List ℕ)) → AreDifferent ns → AllByRecursion (λ r. number_found (fresh free ns) r.name ≡ Some r.number) (named t free ns)
  named_found free [] d = tt
  named_found free (n ∷ ns) d = from (symbol_number t n) refl (named_found free ns d.1) (named_found (free + 1) ns d.1) (named_apart n (free + 1) ns d.0)
    where
      row : Option ℕ → SymbolRow
      row o = record { number = unwrap_or o free; name = n }

      rows : Option ℕ → List SymbolRow
      rows o = cond (is_none o) (row o ∷ fresh (free_after free o) ns) (fresh (free_after free o) ns)

      found : List ℕ → List SymbolRow → Option ℕ
      found m rs = option_map (λ (r : SymbolRow). r.number) (find (λ (r : SymbolRow). bytes_eq m r.name) rs)

      other : (r : SymbolRow) → number_found (fresh (free + 1) ns) r.name ≡ Some r.number → bytes_eq r.name n ≡ false → number_found (rows None) r.name ≡ Some r.number
      other r is apart =
          ap (λ (b : Bool). option_or (symbol_number t r.name) (option_map (λ (s : SymbolRow). s.number) (cond b (Some (row None)) (find (λ (s : SymbolRow). bytes_eq r.name s.name) (fresh (free + 1) ns))))) apart ∙ is

      from : (o : Option ℕ) → symbol_number t n ≡ o → AllByRecursion (λ r. number_found (fresh free ns) r.name ≡ Some r.number) (named t free ns)
          → AllByRecursion (λ r. number_found (fresh (free + 1) ns) r.name ≡ Some r.number) (named t (free + 1) ns) → AllByRecursion (λ r. bytes_eq r.name n ≡ false) (named t (free + 1) ns)
          → (number_found (rows o) n ≡ Some (unwrap_or o free)) × AllByRecursion (λ r. number_found (rows o) r.name ≡ Some r.number) (named t (free_after free o) ns)
      from (Some k) is same more apart = (ap (λ (x : Option ℕ). option_or x (found n (fresh free ns))) is, same)
      from None is same more apart = (
        ap (λ (x : Option ℕ). option_or x (found n (rows None))) is
            ∙ ap (λ (b : Bool). option_map (λ (s : SymbolRow). s.number) (cond b (Some (row None)) (find (λ (s : SymbolRow). bytes_eq n s.name) (fresh (free + 1) ns)))) (same_bytes n),
        all_with (λ (r : SymbolRow). number_found (fresh (free + 1) ns) r.name ≡ Some r.number) (λ (r : SymbolRow). bytes_eq r.name n ≡ false) (λ (r : SymbolRow). number_found (rows None) r.name ≡ Some r.number)
            (named t (free + 1) ns) other more apart,
      )

  pub named_names : (free : ℕ) (ns : List (List ℕ)) → map (λ r. r.name) (named t free ns) ≡ ns
  named_names free [] = refl
  named_names free (n ∷ ns) = ap (λ (ms : List (List ℕ)). n ∷ ms) (named_names (free_after free (symbol_number t n)) ns)
