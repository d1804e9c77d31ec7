-- Elements of lists, and of parts of them.
use Rattle.std.proofs.Common.{◌≡◌, ℕ, zero, suc, ◌+◌, ◌-◌, ◌<◌, List, [], ◌∷◌, ◌++◌, length, take, drop, Some, refl, sym, ap, ◌∙◌, arith, slice_range}
use Rattle.std.specs.Prelude.{slice_get}

-- an element of the first of two lists
pub get_front : {X : Type 0} (xs ys : List X) (i : ℕ) → i < length xs → slice_get (xs ++ ys) i ≡ slice_get xs i
get_front [] ys i lt = absurd (omega arith)
get_front (x ∷ xs) ys zero lt = refl
get_front (x ∷ xs) ys (suc i) lt = get_front xs ys i (omega arith)

-- an element of the first n
pub get_take : {X : Type 0} (xs : List X) (n i : ℕ) → i < n → slice_get (take n xs) i ≡ slice_get xs i
get_take [] zero i lt = refl
get_take [] (suc n) i lt = refl
get_take (x ∷ xs) zero i lt = absurd (omega arith)
get_take (x ∷ xs) (suc n) zero lt = refl
get_take (x ∷ xs) (suc n) (suc i) lt = get_take xs n i (omega arith)

-- an element behind the first n
pub get_drop : {X : Type 0} (xs : List X) (n i : ℕ) → slice_get (drop n xs) i ≡ slice_get xs (n + i)
get_drop xs zero i = let e : 0 + i ≡ i = omega arith in ap (slice_get xs) (sym e)
get_drop [] (suc n) i = refl
get_drop (x ∷ xs) (suc n) i = let e : suc n + i ≡ suc (n + i) = omega arith in get_drop xs n i ∙ ap (slice_get (x ∷ xs)) (sym e)

-- an element of a range
pub get_range : {X : Type 0} (xs : List X) (from n i : ℕ) → i < n → slice_get (slice_range xs from (from + n)) i ≡ slice_get xs (from + i)
get_range xs from n i lt =
    let e : from + n - from ≡ n = omega arith in
    ap (λ m. slice_get (take m (drop from xs)) i) e ∙ get_take (drop from xs) n i lt ∙ get_drop xs from i

-- there is an element at each place
pub at_place : {X : Type 0} (xs : List X) (k : ℕ) → k < length xs → (x : X) × (slice_get xs k ≡ Some x)
at_place [] k lt = absurd (omega arith)
at_place (x ∷ xs) zero lt = (x, refl)
at_place (x ∷ xs) (suc k) lt = at_place xs k (omega arith)
