-- Lists of numbered things.
use Rattle.std.proofs.Common.{◌≡◌, ℕ, ◌+◌, ◌<◌, Some, List, [], ◌∷◌, ◌++◌, length, get_or, refl, ap, ◌∙◌, arith, unwrap_or}
use Rattle.std.specs.Prelude.{slice_get}
use Rattle.std.proofs.lemmas.List.FromFn.{length-map-range_with_len, get_or-map-range_with_len, map-range_with_len_more}
use Rattle.std.proofs.lemmas.Option.{slice_get-get_or}
use Rattle.avr_elf.specs.First.{list_of}

-- one more
pub list_of_more : {X : Type 0} (f : ℕ → X) (n : ℕ) → list_of f (n + 1) ≡ list_of f n ++ f n ∷ []
list_of_more f n = map-range_with_len_more f 0 n n (omega arith)

-- a list of numbered things has as many as were asked for
pub length-list_of : {X : Type 0} (f : ℕ → X) (n : ℕ) → length (list_of f n) ≡ n
length-list_of f n = length-map-range_with_len f 0 n

-- and the one of number i at place i
pub slice_get-list_of : {X : Type 0} (f : ℕ → X) (n i : ℕ) → i < n → slice_get (list_of f n) i ≡ Some (f i)
slice_get-list_of f n i lt =
    let within : i < length (list_of f n) = omega (arith, length-list_of f n) in
    slice_get-get_or (list_of f n) i (f i) within ∙ ap (λ x. Some x) (get_or-map-range_with_len f 0 n i i (f i) lt (omega arith))

pub get_or-list_of : {X : Type 0} (f : ℕ → X) (n i : ℕ) (d : X) → i < n → get_or (list_of f n) i d ≡ f i
get_or-list_of f n i d lt = get_or-map-range_with_len f 0 n i i d lt (omega arith)

-- an element with a default
pub unwrap_get : {X : Type 0} (xs : List X) (i : ℕ) (d : X) → i < length xs → unwrap_or (slice_get xs i) d ≡ get_or xs i d
unwrap_get xs i d lt = ap (λ o. unwrap_or o d) (slice_get-get_or xs i d lt)

-- with nothing behind it
pub append_none : {X : Type 0} (xs : List X) → xs ++ [] ≡ xs
append_none [] = refl
append_none (x ∷ xs) = ap (λ ys. x ∷ ys) (append_none xs)
