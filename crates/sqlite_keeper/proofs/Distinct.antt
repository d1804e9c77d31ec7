-- Whether parts have different components.
use Rattle.std.proofs.Common.{◌≡◌, ℕ, ◌+◌, ◌-◌, ◌<◌, ◌≤◌, true, false, List, [], ◌∷◌, length, map, take, drop, get_or, refl, sym, ap, subst, arith, add-one, drop-cons, length-drop, ◌∙◌}
use Rattle.std.specs.Prelude.{◌==◌, ◌||◌}
use Rattle.std.specs.List.{list_any}
use Rattle.std.proofs.lemmas.Bool.{false≢true}
use Rattle.std.proofs.lemmas.List.{take_all, drop_all}
use Rattle.component_package.specs.packages.Manifest.{AreDistinct}
use Rattle.release_rows.specs.declared.part.Numbered.{Numbered}

-- the components of parts
abbrev pub components : List Numbered → List ℕ
components = map (λ p. p.component)

-- a component is among parts' components where a part has it
among : (c : ℕ) (ps : List Numbered) → list_any (λ (p : Numbered). p.component == c) ps ≡ list_any (λ n. n == c) (components ps)
among c [] = refl
among c (p ∷ ps) = ap (λ b. p.component == c || b) (among c ps)

-- those from i on differ exactly where all do
pub record AreApart (ps : List Numbered) (i : ℕ) : Type 0 where
  pub all : AreDistinct (components (drop i ps)) → AreDistinct (components ps)
  pub rest : AreDistinct (components ps) → AreDistinct (components (drop i ps))

-- the part at i and those behind it
front : (ps : List Numbered) (i : ℕ) (p : Numbered) → i < length ps → drop i ps ≡ get_or ps i p ∷ drop (i + 1) ps
front ps i p lt = rw (add-one, drop-cons ps i p) refl

-- the parts behind the one at i, as the code takes them
pub behind : (ps : List Numbered) (k : ℕ) → take (length ps - k) (drop k ps) ≡ drop k ps
behind ps k = take_all (length ps - k) (drop k ps) (omega (arith, length-drop k ps))

-- the part at i has a component of its own
pub apart_more : (ps : List Numbered) (i : ℕ) (p : Numbered) → i < length ps
    → list_any (λ (q : Numbered). q.component == (get_or ps i p).component) (drop (i + 1) ps) ≡ false → AreApart ps i → AreApart ps (i + 1)
apart_more ps i p lt new are = record {
  all = λ d. are.all (subst (λ (qs : List Numbered). AreDistinct (components qs)) (sym (front ps i p lt)) (sym (among _ (drop (i + 1) ps)) ∙ new, d));
  rest = λ d. (subst (λ (qs : List Numbered). AreDistinct (components qs)) (front ps i p lt) (are.rest d)).1;
}

-- the part at i has a component that comes again
pub again : (ps : List Numbered) (i : ℕ) (p : Numbered) → i < length ps
    → list_any (λ (q : Numbered). q.component == (get_or ps i p).component) (drop (i + 1) ps) ≡ true → AreApart ps i → AreDistinct (components ps) → ⊥
again ps i p lt old are d =
    let found = sym (among _ (drop (i + 1) ps)) ∙ old in
    let first = (subst (λ (qs : List Numbered). AreDistinct (components qs)) (front ps i p lt) (are.rest d)).0 in
    false≢true (sym first ∙ found)

-- where all were looked at, all differ
pub all_apart : (ps : List Numbered) (i : ℕ) → length ps ≤ i → AreApart ps i → AreDistinct (components ps)
all_apart ps i past are = are.all (subst (λ (qs : List Numbered). AreDistinct (components qs)) (sym (drop_all i ps past)) tt)
