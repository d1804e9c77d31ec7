-- Numbers of names, from what is known of each.
use Rattle.std.proofs.Common.{◌≡◌, ℕ, suc, ◌+◌, ◌<◌, ◌≤◌, cond, Option, Some, None, List, [], ◌∷◌, ◌++◌, length, map, get_or, drop, refl, sym, ap, ◌∙◌, arith, append_assoc, append-nil, unwrap_or}
use Rattle.std.specs.Prelude.{is_none, slice_get}
use Rattle.std.specs.List.{filter}
use Rattle.std.proofs.lemmas.List.{at_drop_more, at_drop_all}
use Rattle.std.proofs.lemmas.List.Sums.{sum_by-cons}
use Rattle.std.proofs.lemmas.Option.{get_or_from_slice_get}
use Rattle.release_rows.specs.declared.row.SymbolRow.{SymbolRow}
use Rattle.release_rows.specs.Tables.{Tables, symbol_number}
use Rattle.release_versions.specs.Numbers.{numbers_from, rows_from, new_count}
use Rattle.release_versions.specs.Versions.{free_after, named}

-- ---- of names that tables know

pub named_numbers : (t : Tables) (free : ℕ) (ns : List (List ℕ)) → map (λ r. r.number) (named t free ns) ≡ numbers_from free (map (symbol_number t) ns)
named_numbers t free [] = refl
named_numbers t free (n ∷ ns) = from (symbol_number t n) (λ next. named_numbers t next ns)
  where
    from : (k : Option ℕ) → ((next : ℕ) → map (λ r. r.number) (named t next ns) ≡ numbers_from next (map (symbol_number t) ns))
        → unwrap_or k free ∷ map (λ r. r.number) (named t (free_after free k) ns) ≡ numbers_from free (k ∷ map (symbol_number t) ns)
    from (Some number) rest = ap (λ xs. number ∷ xs) (rest free)
    from None rest = ap (λ xs. free ∷ xs) (rest (free + 1))

pub named_rows : (t : Tables) (free : ℕ) (ns : List (List ℕ)) → filter (λ r. is_none (symbol_number t r.name)) (named t free ns) ≡ rows_from free ns (map (symbol_number t) ns)
named_rows t free [] = refl
named_rows t free (n ∷ ns) = from (symbol_number t n) (λ next. named_rows t next ns)
  where
    from : (k : Option ℕ) → ((next : ℕ) → filter (λ r. is_none (symbol_number t r.name)) (named t next ns) ≡ rows_from next ns (map (symbol_number t) ns))
        → cond (is_none k) (record { number = unwrap_or k free; name = n } ∷ filter (λ r. is_none (symbol_number t r.name)) (named t (free_after free k) ns)) (filter (λ r. is_none (symbol_number t r.name)) (named t (free_after free k) ns))
        ≡ rows_from free (n ∷ ns) (k ∷ map (symbol_number t) ns)
    from (Some number) rest = rest free
    from None rest = ap (λ (xs : List SymbolRow). record { number = free; name = n } ∷ xs) (rest (free + 1))

pub count_known : (number : ℕ) (known : List (Option ℕ)) → new_count (Some number ∷ known) ≡ new_count known
count_known number known = let step = sum_by-cons (λ k. cond (is_none k) 1 0) (Some number) known in omega (arith, step)

pub count_new : (known : List (Option ℕ)) → new_count (None ∷ known) ≡ 1 + new_count known
count_new known = sum_by-cons (λ k. cond (is_none k) 1 0) None known

-- as many rows are new as names are unknown
pub count_rows : (free : ℕ) (ns : List (List ℕ)) (known : List (Option ℕ)) → length known ≡ length ns → length (rows_from free ns known) ≡ new_count known
count_rows free [] [] e = refl
count_rows free [] (k ∷ known) e = absurd (omega (arith, e))
count_rows free (n ∷ ns) [] e = absurd (omega (arith, e))
count_rows free (n ∷ ns) (Some number ∷ known) e = let rest = count_rows free ns known (omega (arith, e)) in rest ∙ sym (count_known number known)
count_rows free (n ∷ ns) (None ∷ known) e = let rest = count_rows (free + 1) ns known (omega (arith, e)) in omega (arith, rest, count_new known)

-- ---- as loops come along

-- the name at a place, whatever stands for one that isn't there
pub name_is : (ns : List (List ℕ)) (i : ℕ) (n : List ℕ) → slice_get ns i ≡ Some n → get_or ns i [] ≡ n
name_is ns i n e = get_or_from_slice_get ns i n [] e

here : (known : List (Option ℕ)) (i : ℕ) (k : Option ℕ) (numbers : List ℕ) (first free : ℕ) → i < length known → get_or known i None ≡ k
    → numbers_from first known ≡ numbers ++ numbers_from free (drop i known) → numbers_from first known ≡ numbers ++ numbers_from free (k ∷ drop (i + 1) known)
here known i k numbers first free lt is before =
    before ∙ ap (λ rest. numbers ++ rest) (at_drop_more (numbers_from free) known i None lt) ∙ ap (λ (o : Option ℕ). numbers ++ numbers_from free (o ∷ drop (i + 1) known)) is

pub numbers_known : (known : List (Option ℕ)) (i number : ℕ) (numbers : List ℕ) (first free : ℕ) → i < length known → get_or known i None ≡ Some number
    → numbers_from first known ≡ numbers ++ numbers_from free (drop i known) → numbers_from first known ≡ (numbers ++ number ∷ []) ++ numbers_from free (drop (i + 1) known)
numbers_known known i number numbers first free lt is before =
    here known i (Some number) numbers first free lt is before ∙ sym (append_assoc numbers (number ∷ []) (numbers_from free (drop (i + 1) known)))

pub numbers_new : (known : List (Option ℕ)) (i : ℕ) (numbers : List ℕ) (first free : ℕ) → i < length known → get_or known i None ≡ None
    → numbers_from first known ≡ numbers ++ numbers_from free (drop i known) → numbers_from first known ≡ (numbers ++ free ∷ []) ++ numbers_from (free + 1) (drop (i + 1) known)
numbers_new known i numbers first free lt is before =
    here known i None numbers first free lt is before ∙ sym (append_assoc numbers (free ∷ []) (numbers_from (free + 1) (drop (i + 1) known)))

pub numbers_all : (known : List (Option ℕ)) (i : ℕ) (numbers : List ℕ) (first free : ℕ) → length known ≤ i
    → numbers_from first known ≡ numbers ++ numbers_from free (drop i known) → numbers ≡ numbers_from first known
numbers_all known i numbers first free past before =
    sym (before ∙ ap (λ rest. numbers ++ rest) (at_drop_all (numbers_from free) known i past) ∙ append-nil numbers)

-- how many are left
pub left_known : (known : List (Option ℕ)) (i number : ℕ) → i < length known → get_or known i None ≡ Some number → new_count (drop i known) ≡ new_count (drop (i + 1) known)
left_known known i number lt is = at_drop_more new_count known i None lt ∙ ap (λ (o : Option ℕ). new_count (o ∷ drop (i + 1) known)) is ∙ count_known number (drop (i + 1) known)

pub left_new : (known : List (Option ℕ)) (i : ℕ) → i < length known → get_or known i None ≡ None → new_count (drop i known) ≡ new_count (drop (i + 1) known) + 1
left_new known i lt is = at_drop_more new_count known i None lt ∙ ap (λ (o : Option ℕ). new_count (o ∷ drop (i + 1) known)) is ∙ omega (arith, count_new (drop (i + 1) known))

-- rows: the two lists come along together
both : (ns : List (List ℕ)) (known : List (Option ℕ)) (i : ℕ) (n : List ℕ) (k : Option ℕ) (rows : List SymbolRow) (first free : ℕ) → i < length ns → i < length known
    → get_or ns i [] ≡ n → get_or known i None ≡ k → rows_from first ns known ≡ rows ++ rows_from free (drop i ns) (drop i known)
    → rows_from first ns known ≡ rows ++ rows_from free (n ∷ drop (i + 1) ns) (k ∷ drop (i + 1) known)
both ns known i n k rows first free lt lt2 is is2 before =
    before ∙ ap (λ rest. rows ++ rest) (at_drop_more (λ xs. rows_from free xs (drop i known)) ns i [] lt)
    ∙ ap (λ (x : List ℕ). rows ++ rows_from free (x ∷ drop (i + 1) ns) (drop i known)) is
    ∙ ap (λ rest. rows ++ rest) (at_drop_more (rows_from free (n ∷ drop (i + 1) ns)) known i None lt2)
    ∙ ap (λ (o : Option ℕ). rows ++ rows_from free (n ∷ drop (i + 1) ns) (o ∷ drop (i + 1) known)) is2

pub rows_known : (ns : List (List ℕ)) (known : List (Option ℕ)) (i : ℕ) (n : List ℕ) (number : ℕ) (rows : List SymbolRow) (first free : ℕ) → i < length ns → i < length known
    → get_or ns i [] ≡ n → get_or known i None ≡ Some number → rows_from first ns known ≡ rows ++ rows_from free (drop i ns) (drop i known)
    → rows_from first ns known ≡ rows ++ rows_from free (drop (i + 1) ns) (drop (i + 1) known)
rows_known ns known i n number rows first free lt lt2 is is2 before = both ns known i n (Some number) rows first free lt lt2 is is2 before

pub rows_new : (ns : List (List ℕ)) (known : List (Option ℕ)) (i : ℕ) (n : List ℕ) (rows : List SymbolRow) (first free : ℕ) → i < length ns → i < length known
    → get_or ns i [] ≡ n → get_or known i None ≡ None → rows_from first ns known ≡ rows ++ rows_from free (drop i ns) (drop i known)
    → rows_from first ns known ≡ (rows ++ record { number = free; name = n } ∷ []) ++ rows_from (free + 1) (drop (i + 1) ns) (drop (i + 1) known)
rows_new ns known i n rows first free lt lt2 is is2 before =
    both ns known i n None rows first free lt lt2 is is2 before
    ∙ sym (append_assoc rows (record { number = free; name = n } ∷ []) (rows_from (free + 1) (drop (i + 1) ns) (drop (i + 1) known)))

no_rows : (free : ℕ) (ns : List (List ℕ)) → rows_from free ns [] ≡ []
no_rows free [] = refl
no_rows free (n ∷ ns) = refl

pub rows_all : (ns : List (List ℕ)) (known : List (Option ℕ)) (i : ℕ) (rows : List SymbolRow) (first free : ℕ) → length known ≤ i
    → rows_from first ns known ≡ rows ++ rows_from free (drop i ns) (drop i known) → rows ≡ rows_from first ns known
rows_all ns known i rows first free past before =
    sym (before ∙ ap (λ rest. rows ++ rest) (at_drop_all (rows_from free (drop i ns)) known i past ∙ no_rows free (drop i ns)) ∙ append-nil rows)

pub length_numbers : (free : ℕ) (known : List (Option ℕ)) → length (numbers_from free known) ≡ length known
length_numbers free [] = refl
length_numbers free (Some number ∷ known) = ap (λ n. suc n) (length_numbers free known)
length_numbers free (None ∷ known) = ap (λ n. suc n) (length_numbers (free + 1) known)
