-- Lists of different numbers, as a loop comes along.
use Rattle.std.proofs.Common.{◌≡◌, ℕ, ◌+◌, ◌<◌, ◌≤◌, Bool, true, false, List, [], ◌∷◌, ◌++◌, length, get_or, take, drop, refl, sym, ap, ap₂, ◌∙◌, arith, zero, suc, set}
use Rattle.std.specs.Prelude.{◌==◌, ◌&&◌, ◌||◌, not, nat_le}
use Rattle.std.specs.List.{list_any, list_all}
use Rattle.std.proofs.lemmas.List.{take_more, take_all, take-append-drop, get_or-set_same, get_or-set_other}
use Rattle.std.proofs.lemmas.List.Folds.{list_any-append, list_any_more}
use Rattle.std.proofs.lemmas.Bool.{and_parts, eqb-true}
use Rattle.std.proofs.lemmas.Bool.Decides.{nat_tests}
use Rattle.component_package.specs.packages.Manifest.{AreDistinct}
use Rattle.object_packer.proofs.Elements.{no_way}
use Rattle.release_judging.specs.Judging.{are_distinct}
use Rattle.release_judging.proofs.Distinct.{distinct_means}
use Rattle.release_versions.specs.Versions.{are_symbols}

same_either : (m n : ℕ) → (m == n) ≡ (n == m)
same_either m n = grind (arith, nat_tests)

moved : (a b d e : Bool) → (not (a || (e || false)) && (d && not b)) ≡ ((not a && d) && not (e || b))
moved true b d e = refl
moved false true true true = refl
moved false true true false = refl
moved false true false true = refl
moved false true false false = refl
moved false false true true = refl
moved false false true false = refl
moved false false false true = refl
moved false false false false = refl

-- with one number more
pub distinct_snoc : (xs : List ℕ) (x : ℕ) → are_distinct (xs ++ x ∷ []) ≡ (are_distinct xs && not (list_any (λ m. m == x) xs))
distinct_snoc [] x = refl
distinct_snoc (y ∷ xs) x =
    ap₂ (λ a d. not a && d) (list_any-append (λ m. m == y) xs (x ∷ []) ∙ ap (λ e. list_any (λ m. m == y) xs || (e || false)) (same_either x y)) (distinct_snoc xs x)
    ∙ moved (list_any (λ m. m == y) xs) (list_any (λ m. m == x) xs) (are_distinct xs) (y == x)

spread : (a b d e : Bool) → (not a && d) ≡ false → (d ≡ false → e ≡ false) → (not (a || b) && e) ≡ false
spread true b d e h rest = refl
spread false true d e h rest = refl
spread false false d e h rest = rest h

-- numbers that aren't different stay so, whatever follows
pub still_not : (xs ys : List ℕ) → are_distinct xs ≡ false → are_distinct (xs ++ ys) ≡ false
still_not [] ys e = absurd cc
still_not (x ∷ xs) ys e =
    ap (λ a. not a && are_distinct (xs ++ ys)) (list_any-append (λ m. m == x) xs ys)
    ∙ spread (list_any (λ m. m == x) xs) (list_any (λ m. m == x) ys) (are_distinct xs) (are_distinct (xs ++ ys)) e (still_not xs ys)

-- a number that is among the former ones
pub seen_twice : (xs : List ℕ) (i : ℕ) → i < length xs → list_any (λ m. m == get_or xs i 0) (take i xs) ≡ true → are_distinct (take i xs) ≡ true → are_distinct xs ≡ false
seen_twice xs i lt seen before =
    let now : are_distinct (take (i + 1) xs) ≡ false = ap are_distinct (take_more xs i 0 lt) ∙ distinct_snoc (take i xs) (get_or xs i 0) ∙ ap₂ (λ d a. d && not a) before seen in
    ap are_distinct (sym (take-append-drop (i + 1) xs)) ∙ still_not (take (i + 1) xs) (drop (i + 1) xs) now

-- and one that isn't
pub seen_once : (xs : List ℕ) (i : ℕ) → i < length xs → list_any (λ m. m == get_or xs i 0) (take i xs) ≡ false → are_distinct (take i xs) ≡ true → are_distinct (take (i + 1) xs) ≡ true
seen_once xs i lt seen before = ap are_distinct (take_more xs i 0 lt) ∙ distinct_snoc (take i xs) (get_or xs i 0) ∙ ap₂ (λ d a. d && not a) before seen

pub seen_all : (xs : List ℕ) (i : ℕ) → length xs ≤ i → are_distinct (take i xs) ≡ true → are_distinct xs ≡ true
seen_all xs i past before = ap are_distinct (sym (take_all i xs past)) ∙ before

-- what was marked is there, whatever stands for what isn't
pub marked : (seen : List Bool) (x : ℕ) (r b : Bool) → x < length seen → r ≡ get_or seen x r → r ≡ b → get_or seen x false ≡ b
marked [] x r b lt is e = absurd (omega (arith, lt))
marked (s ∷ seen) zero r b lt is e = sym is ∙ e
marked (s ∷ seen) (suc x) r b lt is e = marked seen x r b (omega (arith, lt)) is e

or_true : (a : Bool) → (a || true) ≡ true
or_true true = refl
or_true false = refl

or_false : (a : Bool) → (a || false) ≡ a
or_false true = refl
or_false false = refl

-- one mark more
pub mark_more : (seen : List Bool) (bound : ℕ) (xs : List ℕ) (i : ℕ) → i < length xs → length seen ≡ bound → get_or xs i 0 < bound
    → ((k : ℕ) → k < bound → get_or seen k false ≡ list_any (λ m. m == k) (take i xs))
    → (k : ℕ) → k < bound → get_or (set seen (get_or xs i 0) true) k false ≡ list_any (λ m. m == k) (take (i + 1) xs)
mark_more seen bound xs i lt long below were k fits = from (get_or xs i 0 == k) refl
  where
    from : (b : Bool) → (get_or xs i 0 == k) ≡ b → get_or (set seen (get_or xs i 0) true) k false ≡ list_any (λ m. m == k) (take (i + 1) xs)
    from true e =
        let same : get_or xs i 0 ≡ k = eqb-true (get_or xs i 0) k e in
        ap (λ (j : ℕ). get_or (set seen (get_or xs i 0) true) j false) (sym same) ∙ get_or-set_same seen (get_or xs i 0) true false (omega (arith, long, below))
        ∙ sym (list_any_more (λ m. m == k) xs i 0 lt ∙ ap (λ b. list_any (λ m. m == k) (take i xs) || b) e ∙ or_true (list_any (λ m. m == k) (take i xs)))
    from false e =
        get_or-set_other seen (get_or xs i 0) k true false (λ same. let u : (get_or xs i 0 == k) ≡ true = grind (arith, nat_tests, same) in no_way (get_or xs i 0 == k) e u)
        ∙ were k fits
        ∙ sym (list_any_more (λ m. m == k) xs i 0 lt ∙ ap (λ b. list_any (λ m. m == k) (take i xs) || b) e ∙ or_false (list_any (λ m. m == k) (take i xs)))

-- ---- what tests say

pub symbols_differ : (ns : List ℕ) → are_symbols ns ≡ true → AreDistinct ns
symbols_differ ns e = distinct_means ns (and_parts (are_distinct ns) (list_all (λ n. nat_le 16 n) ns) e).0
