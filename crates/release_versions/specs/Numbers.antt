-- Numbers of names, where it is known of each whether it has one.
use Rattle.std.specs.Prelude.{ℕ, ◌+◌, is_none, List, [], ◌∷◌, Option, Some, None}
use Rattle.std.specs.List.{count_by}
use Rattle.release_rows.specs.declared.row.SymbolRow.{SymbolRow}

-- each its own where it has one, and from `free` on for the others
abbrev pub numbers_from : ℕ → List (Option ℕ) → List ℕ
numbers_from free [] = []
numbers_from free (Some number ∷ known) = number ∷ numbers_from free known
numbers_from free (None ∷ known) = free ∷ numbers_from (free + 1) known

-- rows for the others alone, from `free` on
abbrev pub rows_from : ℕ → List (List ℕ) → List (Option ℕ) → List SymbolRow
rows_from free [] known = []
rows_from free (n ∷ ns) [] = []
rows_from free (n ∷ ns) (Some number ∷ known) = rows_from free ns known
rows_from free (n ∷ ns) (None ∷ known) = record { number = free; name = n } ∷ rows_from (free + 1) ns known

-- how many names have no number
abbrev pub new_count : List (Option ℕ) → ℕ
new_count known = count_by (λ k. is_none k) known
