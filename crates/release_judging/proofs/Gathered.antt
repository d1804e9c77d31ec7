-- Loops that gather what is there of each, and stop where something isn't.
use Rattle.std.proofs.Common.{◌≡◌, ℕ, ◌+◌, ◌<◌, ◌≤◌, Option, Some, None, List, [], ◌∷◌, ◌++◌, length, map, get_or, drop, refl, sym, ap, ◌∙◌, append_assoc}
use Rattle.std.specs.Option.{option_map, option_and_then}
use Rattle.std.proofs.lemmas.List.{at_drop_more, at_drop_all}
use Rattle.release_rows.specs.Kept.{all_of}

-- what was gathered so far, then what all the rest gives, is the whole
abbrev pub IsGathered : {X Y : Type 0} → (X → Option Y) → List X → ℕ → List Y → Type 0
IsGathered f xs i ys = all_of (map f xs) ≡ option_map (λ rest. ys ++ rest) (all_of (map f (drop i xs)))

append_none : {Y : Type 0} (ys : List Y) → ys ++ [] ≡ ys
append_none [] = refl
append_none (y ∷ ys) = ap (λ zs. y ∷ zs) (append_none ys)

joined : {Y : Type 0} (ys : List Y) (y : Y) (o : Option (List Y)) → option_map (λ rest. ys ++ rest) (option_map (λ rest. y ∷ rest) o) ≡ option_map (λ rest. (ys ++ y ∷ []) ++ rest) o
joined ys y None = refl
joined ys y (Some rest) = ap (λ zs. Some zs) (sym (append_assoc ys (y ∷ []) rest))

nothing_before : {Y : Type 0} (o : Option (List Y)) → o ≡ option_map (λ (rest : List Y). [] ++ rest) o
nothing_before None = refl
nothing_before (Some rest) = refl

-- before the first
pub gathered_start : {X Y : Type 0} (f : X → Option Y) (xs : List X) → IsGathered f xs 0 []
gathered_start f xs = nothing_before (all_of (map f xs))

-- one that isn't there
pub gathered_none : {X Y : Type 0} (f : X → Option Y) (xs : List X) (i : ℕ) (ys : List Y) (d : X) → i < length xs → f (get_or xs i d) ≡ None → IsGathered f xs i ys → all_of (map f xs) ≡ None
gathered_none {X} {Y} f xs i ys d lt none g =
    let rest : Option (List Y) = all_of (map f (drop (i + 1) xs)) in
    let here = at_drop_more (λ zs. all_of (map f zs)) xs i d lt in
    g ∙ ap (λ o. option_map (λ zs. ys ++ zs) o) (here ∙ ap (λ o. option_and_then (λ a. option_map (λ zs. a ∷ zs) rest) o) none)

-- one that is
pub gathered_more : {X Y : Type 0} (f : X → Option Y) (xs : List X) (i : ℕ) (ys : List Y) (d : X) (y : Y) → i < length xs → f (get_or xs i d) ≡ Some y → IsGathered f xs i ys → IsGathered f xs (i + 1) (ys ++ y ∷ [])
gathered_more {X} {Y} f xs i ys d y lt some g =
    let rest : Option (List Y) = all_of (map f (drop (i + 1) xs)) in
    let here = at_drop_more (λ zs. all_of (map f zs)) xs i d lt in
    g ∙ ap (λ o. option_map (λ zs. ys ++ zs) o) (here ∙ ap (λ o. option_and_then (λ a. option_map (λ zs. a ∷ zs) rest) o) some) ∙ joined ys y rest

-- and behind the last
pub gathered_all : {X Y : Type 0} (f : X → Option Y) (xs : List X) (i : ℕ) (ys : List Y) → length xs ≤ i → IsGathered f xs i ys → all_of (map f xs) ≡ Some ys
gathered_all f xs i ys past g = g ∙ ap (λ o. option_map (λ zs. ys ++ zs) o) (at_drop_all (λ zs. all_of (map f zs)) xs i past) ∙ ap (λ zs. Some zs) (append_none ys)
