-- Whether numbers differ.
use Rattle.std.proofs.Common.{◌≡◌, ℕ, ◌+◌, ◌-◌, ◌<◌, ◌≤◌, true, false, List, ◌∷◌, length, take, drop, get_or, refl, sym, subst, arith, add-one, drop-cons, length-drop}
use Rattle.std.specs.Prelude.{◌==◌}
use Rattle.std.specs.List.{list_any}
use Rattle.std.proofs.lemmas.List.{take_all, drop_all}
use Rattle.component_package.specs.packages.Manifest.{AreDistinct}

-- those from i on differ exactly where all do
pub record AreChecked (xs : List ℕ) (i : ℕ) : Type 0 where
  pub all : AreDistinct (drop i xs) → AreDistinct xs
  pub rest : AreDistinct xs → AreDistinct (drop i xs)

-- the first of the rest
front : (xs : List ℕ) (i : ℕ) → i < length xs → drop i xs ≡ get_or xs i 0 ∷ drop (i + 1) xs
front xs i lt = rw (add-one, drop-cons xs i 0) refl

-- the rest of a list, as `&xs[k..]` gives it
pub rest_of : (xs : List ℕ) (k : ℕ) → take (length xs - k) (drop k xs) ≡ drop k xs
rest_of xs k = take_all (length xs - k) (drop k xs) (omega (arith, length-drop k xs))

-- a number that does not occur behind changes nothing
pub checked_more : (xs : List ℕ) (i : ℕ) → i < length xs → list_any (λ n. n == get_or xs i 0) (drop (i + 1) xs) ≡ false → AreChecked xs i → AreChecked xs (i + 1)
checked_more xs i lt new are = record {
  all = λ d. are.all (subst (λ (ys : List ℕ). AreDistinct ys) (sym (front xs i lt)) (new, d));
  rest = λ d. (subst (λ (ys : List ℕ). AreDistinct ys) (front xs i lt) (are.rest d)).1;
}

-- one that does occur is the same as another
pub repeated : (xs : List ℕ) (i : ℕ) → i < length xs → list_any (λ n. n == get_or xs i 0) (drop (i + 1) xs) ≡ true → AreChecked xs i → AreDistinct xs → ⊥
repeated xs i lt old are d = let first = (subst (λ (ys : List ℕ). AreDistinct ys) (front xs i lt) (are.rest d)).0 in cc

-- where all were checked, all differ
pub all_differ : (xs : List ℕ) (i : ℕ) → length xs ≤ i → AreChecked xs i → AreDistinct xs
all_differ xs i past are = are.all (subst (λ (ys : List ℕ). AreDistinct ys) (sym (drop_all i xs past)) tt)
