-- A table of names.
use Rattle.std.specs.Prelude.{◌≡◌, ℕ, ◌+◌, bytes_eq, List, [], ◌∷◌, ◌++◌, Option, Some, None, if◌then◌else◌}
use Rattle.std.specs.Borrow.{Bor}
use Rattle.std.specs.Option.{option_map}
use Rattle.std.specs.List.{list_any}
use Rattle.std.specs.Ordering.{nat_cmp}
use Rattle.std.specs.Cmp.Lexicographic.{slice_cmp}
use Rattle.std.specs.BTreeMap.{BTreeMap, get_by}

-- the place of a name
abbrev pub place_of_name : List (List ℕ) → List ℕ → Option ℕ
place_of_name [] name = None
place_of_name (n ∷ ns) name = if bytes_eq n name then Some 0 else option_map (λ i. i + 1) (place_of_name ns name)

-- with a name more, unless it is there
abbrev pub with_name : List (List ℕ) → List ℕ → List (List ℕ)
with_name ns n = if list_any (λ m. bytes_eq m n) ns then ns else ns ++ n ∷ []

-- the map gives the place of each name
pub record Finds (m : BTreeMap (Bor (List ℕ)) ℕ) (ns : List (List ℕ)) : Type 0 where
  pub finds : (q : List ℕ) → get_by (λ k. slice_cmp nat_cmp q k.now) m ≡ place_of_name ns q
