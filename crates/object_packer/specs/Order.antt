-- Lists in the order of a number that each element has.
use Rattle.std.specs.Prelude.{ℕ, nat_le, List, [], ◌∷◌, if◌then◌else◌}

-- with an element more, before those whose number is not less
abbrev pub insert_by : {X : Type 0} → (X → ℕ) → X → List X → List X
insert_by key x [] = x ∷ []
insert_by key x (y ∷ ys) = if nat_le (key x) (key y) then x ∷ y ∷ ys else y ∷ insert_by key x ys

-- by rising number; elements of one number stay in their order
abbrev pub sorted_by : {X : Type 0} → (X → ℕ) → List X → List X
sorted_by key [] = []
sorted_by key (x ∷ xs) = insert_by key x (sorted_by key xs)
