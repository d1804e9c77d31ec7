-- Elements with their numbers, one after the other.
use Rattle.std.proofs.Common.{◌≡◌, ℕ, ◌+◌, ◌<◌, ◌≤◌, List, [], ◌∷◌, ◌++◌, length, take, get_or, map, Some, refl, sym, ap, ◌∙◌, arith, zero-add}
use Rattle.std.specs.Prelude.{slice_get}
use Rattle.std.specs.List.{enumerate_from, flat_map}
use Rattle.std.proofs.lemmas.List.{take_more, take-map, length-map, map-append, take_all, append-nil}
use Rattle.std.proofs.lemmas.List.FromFn.{length-enumerate_from, get_or-enumerate_from}
use Rattle.std.proofs.lemmas.Option.{slice_get_within, get_or_from_slice_get}
use Rattle.std.proofs.lemmas.Grind.{flat_map-append}

-- one numbered element more
pub numbered_more : {X : Type 0} (xs : List X) (i : ℕ) (x : X) → slice_get xs i ≡ Some x → take (i + 1) (enumerate_from 0 xs) ≡ take i (enumerate_from 0 xs) ++ (i, x) ∷ []
numbered_more xs i x here =
    let lt = slice_get_within xs i x here in
    let inside : i < length (enumerate_from 0 xs) = omega (arith, length-enumerate_from 0 xs) in
    let at : get_or (enumerate_from 0 xs) i (i, x) ≡ (i, x) = get_or-enumerate_from 0 xs i (i, x) lt ∙ rw (zero-add, get_or_from_slice_get xs i x x here) refl in
    take_more (enumerate_from 0 xs) i (i, x) inside ∙ ap (λ e. take i (enumerate_from 0 xs) ++ e ∷ []) at

-- one more, and what a function makes of it
pub map_numbered_more : {X Y : Type 0} (f : ℕ × X → Y) (xs : List X) (i : ℕ) (x : X) → slice_get xs i ≡ Some x → take (i + 1) (map f (enumerate_from 0 xs)) ≡ take i (map f (enumerate_from 0 xs)) ++ f (i, x) ∷ []
map_numbered_more {X} {Y} f xs i x here =
    take-map f (i + 1) (enumerate_from 0 xs) ∙ ap (map f) (numbered_more xs i x here) ∙ map-append f (take i (enumerate_from 0 xs)) ((i, x) ∷ [])
    ∙ ap (λ (ys : List Y). ys ++ f (i, x) ∷ []) (sym (take-map f i (enumerate_from 0 xs)))

-- all of them, and what a function makes of them
pub map_numbered_all : {X Y : Type 0} (f : ℕ × X → Y) (xs : List X) (i : ℕ) → length xs ≤ i → take i (map f (enumerate_from 0 xs)) ≡ map f (enumerate_from 0 xs)
map_numbered_all f xs i past = take_all i (map f (enumerate_from 0 xs)) (omega (arith, length-map (enumerate_from 0 xs) f, length-enumerate_from 0 xs))

-- all of them
pub numbered_all : {X : Type 0} (xs : List X) (i : ℕ) → length xs ≤ i → take i (enumerate_from 0 xs) ≡ enumerate_from 0 xs
numbered_all xs i past = take_all i (enumerate_from 0 xs) (omega (arith, length-enumerate_from 0 xs))

-- one element more, and all that a function makes of it
pub flat_numbered_more : {X Y : Type 0} (f : ℕ × X → List Y) (xs : List X) (i : ℕ) (x : X) → slice_get xs i ≡ Some x
    → flat_map f (take (i + 1) (enumerate_from 0 xs)) ≡ flat_map f (take i (enumerate_from 0 xs)) ++ f (i, x)
flat_numbered_more f xs i x here =
    ap (flat_map f) (numbered_more xs i x here) ∙ flat_map-append f (take i (enumerate_from 0 xs)) ((i, x) ∷ [])
    ∙ ap (λ ys. flat_map f (take i (enumerate_from 0 xs)) ++ ys) (append-nil (f (i, x)))
