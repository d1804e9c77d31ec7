-- What holds of each element of a list.
use Rattle.std.proofs.Common.{◌≡◌, ℕ, Bool, true, false, cond, List, [], ◌∷◌, ◌++◌, map, refl, sym, ap, ◌∙◌, arith, eqb}
use Rattle.std.specs.Prelude.{◌||◌}
use Rattle.std.specs.List.{filter, list_any, AllByRecursion}
use Rattle.std.proofs.lemmas.Bool.{eqb-true}
use Rattle.std.proofs.lemmas.Bool.Decides.{nat_tests}

-- of what follows from it too
pub all_so : {X : Type 0} (P Q : X → Type 0) → ((x : X) → P x → Q x) → (xs : List X) → AllByRecursion P xs → AllByRecursion Q xs
all_so P Q so [] all = tt
all_so P Q so (x ∷ xs) all = (so x all.0, all_so P Q so xs all.1)

-- of two
pub all_both : {X : Type 0} (P Q : X → Type 0) (xs : List X) → AllByRecursion P xs → AllByRecursion Q xs → AllByRecursion (λ x. P x × Q x) xs
all_both P Q [] all more = tt
all_both P Q (x ∷ xs) all more = ((all.0, more.0), all_both P Q xs all.1 more.1)

-- of what a function makes of each
pub all_map : {X Y : Type 0} (P : Y → Type 0) (f : X → Y) (xs : List X) → AllByRecursion (λ x. P (f x)) xs → AllByRecursion P (map f xs)
all_map P f [] all = tt
all_map P f (x ∷ xs) all = (all.0, all_map P f xs all.1)

-- no test comes out both ways
pub no_way : {P : Type 0} (b : Bool) → b ≡ false → b ≡ true → P
no_way b p q = absurd (let u : false ≡ true = sym p ∙ q in cc)

-- of those that pass a test
pub all_passing : {X : Type 0} (P : X → Type 0) (p : X → Bool) (xs : List X) → AllByRecursion P (filter p xs) → AllByRecursion (λ x. p x ≡ true → P x) xs
all_passing P p [] all = tt
all_passing {X} P p (x ∷ xs) all = from (p x) refl all (all_passing P p xs)
  where
    from : (b : Bool) → p x ≡ b → AllByRecursion P (cond b (x ∷ filter p xs) (filter p xs)) → (AllByRecursion P (filter p xs) → AllByRecursion (λ x. p x ≡ true → P x) xs)
        → (p x ≡ true → P x) × AllByRecursion (λ x. p x ≡ true → P x) xs
    from true e all rest = ((λ t. all.0), rest all.1)
    from false e all rest = ((λ t. no_way (p x) e t), rest all)

pub all_filter : {X : Type 0} (P : X → Type 0) (p : X → Bool) (xs : List X) → AllByRecursion (λ x. p x ≡ true → P x) xs → AllByRecursion P (filter p xs)
all_filter P p [] all = tt
all_filter {X} P p (x ∷ xs) all = from (p x) refl (all_filter P p xs all.1)
  where
    from : (b : Bool) → p x ≡ b → AllByRecursion P (filter p xs) → AllByRecursion P (cond b (x ∷ filter p xs) (filter p xs))
    from true e rest = (all.0 e, rest)
    from false e rest = rest

-- a test that one of two passes
pub or_right : (a b : Bool) → b ≡ true → (a || b) ≡ true
or_right true b e = refl
or_right false b e = e

-- each element is in its list
pub all_in : {X : Type 0} (key : X → ℕ) (front xs : List X) → AllByRecursion (λ x. list_any (λ y. eqb (key y) (key x)) (front ++ xs) ≡ true) xs
all_in key front [] = tt
all_in {X} key front (x ∷ xs) = (here front, shift xs (all_in key (front ++ x ∷ []) xs))
  where
    here : (ys : List X) → list_any (λ y. eqb (key y) (key x)) (ys ++ x ∷ xs) ≡ true
    here [] = let same : eqb (key x) (key x) ≡ true = grind (arith, nat_tests) in ap (λ b. b || list_any (λ y. eqb (key y) (key x)) xs) same
    here (y ∷ ys) = or_right (eqb (key y) (key x)) _ (here ys)

    grouped : (ys zs : List X) → (ys ++ x ∷ []) ++ zs ≡ ys ++ x ∷ zs
    grouped [] zs = refl
    grouped (y ∷ ys) zs = ap (λ t. y ∷ t) (grouped ys zs)

    shift : (zs : List X) → AllByRecursion (λ z. list_any (λ y. eqb (key y) (key z)) ((front ++ x ∷ []) ++ xs) ≡ true) zs → AllByRecursion (λ z. list_any (λ y. eqb (key y) (key z)) (front ++ x ∷ xs) ≡ true) zs
    shift [] all = tt
    shift (z ∷ zs) all = (ap (λ t. list_any (λ y. eqb (key y) (key z)) t) (sym (grouped front xs)) ∙ all.0, shift zs all.1)

-- a number that passes a test stays in its list
pub any_passing : (p : ℕ → Bool) (i : ℕ) (xs : List ℕ) → p i ≡ true → list_any (λ j. eqb j i) xs ≡ true → list_any (λ j. eqb j i) (filter p xs) ≡ true
any_passing p i [] pass here = absurd cc
any_passing p i (x ∷ xs) pass here = from (p x) (eqb x i) refl refl here (any_passing p i xs pass)
  where
    from : (b c : Bool) → p x ≡ b → eqb x i ≡ c → (c || list_any (λ j. eqb j i) xs) ≡ true → (list_any (λ j. eqb j i) xs ≡ true → list_any (λ j. eqb j i) (filter p xs) ≡ true)
        → list_any (λ j. eqb j i) (cond b (x ∷ filter p xs) (filter p xs)) ≡ true
    from true true e same h rest = ap (λ c. c || list_any (λ j. eqb j i) (filter p xs)) same
    from true false e other h rest = or_right (eqb x i) _ (rest h)
    from false true e same h rest = no_way (p x) e (ap p (eqb-true x i same) ∙ pass)
    from false false e other h rest = rest h
