-- The first among numbered things, and lists of numbered things.
use Rattle.std.specs.Prelude.{ℕ, zero, suc, Bool, List, Option, Some, None, map, if◌then◌else◌}
use Rattle.std.specs.List.{range_with_len}
use Rattle.std.specs.Option.{option_or}

-- the first that is there among f 0, f 1 and so on, n of them
abbrev pub first_of : {X : Type 0} → (ℕ → Option X) → ℕ → Option X
first_of f zero = None
first_of f (suc n) = option_or (first_of f n) (f n)

-- the first number below n that passes
abbrev pub first_index : (ℕ → Bool) → ℕ → Option ℕ
first_index p n = first_of (λ i. if p i then Some i else None) n

-- f 0, f 1 and so on, n of them
abbrev pub list_of : {X : Type 0} → (ℕ → X) → ℕ → List X
list_of f n = map f (range_with_len 0 n)
