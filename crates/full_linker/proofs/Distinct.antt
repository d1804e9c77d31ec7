-- How many different symbols there are.
use Rattle.std.proofs.Common.{◌≡◌, ℕ, suc, ◌+◌, inl, inr, Bool, true, false, cond, eqb, List, [], ◌∷◌, ◌++◌, length, refl, ap, subst, ◌∙◌, arith}
use Rattle.std.specs.Prelude.{◌||◌}
use Rattle.std.specs.List.{list_any}
use Rattle.std.proofs.lemmas.Bool.{cases_Bool, eqb-true}
use Rattle.component_package.specs.link.Link.{distinct}
use Rattle.full_linker.proofs.Basics.{self_equal}

-- a symbol is in a list
abbrev pub occurs : ℕ → List ℕ → Bool
occurs t ss = list_any (λ u. eqb u t) ss

-- 1 where it is not
abbrev pub one_if_new : ℕ → List ℕ → ℕ
one_if_new t ss = cond (occurs t ss) 0 1

-- two numbers differ both ways
eqb_sym : (m n : ℕ) → eqb m n ≡ false → eqb n m ≡ false
eqb_sym m n e = grind arith

-- the last one occurs
occurs_last : (s : ℕ) (ss : List ℕ) → occurs s (ss ++ s ∷ []) ≡ true
occurs_last s [] = rw (self_equal s) refl
occurs_last s (u ∷ us) = elim (cases_Bool (eqb u s)) [ inl hit ↦ rw hit refl | inr miss ↦ rw miss (occurs_last s us) ]

-- another last one changes nothing
occurs_other : (s t : ℕ) (ss : List ℕ) → eqb t s ≡ false → occurs s (ss ++ t ∷ []) ≡ occurs s ss
occurs_other s t [] e = rw e refl
occurs_other s t (u ∷ us) e = ap (λ b. eqb u s || b) (occurs_other s t us e)

-- what occurs still occurs in a longer list
occurs_more : (s t : ℕ) (ss : List ℕ) → occurs s ss ≡ true → occurs s (ss ++ t ∷ []) ≡ true
occurs_more s t [] e = absurd cc
occurs_more s t (u ∷ us) e = elim (cases_Bool (eqb u s)) [ inl hit ↦ rw hit refl | inr miss ↦ rw miss (occurs_more s t us (rw miss at e)) ]

-- one symbol more is one different one more, if it is new
pub distinct_push : (ss : List ℕ) (t : ℕ) → length (distinct (ss ++ t ∷ [])) ≡ length (distinct ss) + one_if_new t ss
distinct_push [] t = refl
distinct_push (s ∷ ss) t =
    let rest = distinct_push ss t in
    elim (cases_Bool (occurs s ss)) [
      | inl old ↦ elim (cases_Bool (eqb s t)) [
        | inl same ↦ let e : s ≡ t = eqb-true s t same in let there : occurs t ss ≡ true = subst (λ u. occurs u ss ≡ true) e old in
            let r = rw there at rest in rw (occurs_more s t ss old, old, same) r
        | inr other ↦ rw (occurs_more s t ss old, old, other) rest
      ]
      | inr new ↦ elim (cases_Bool (eqb s t)) [
        | inl same ↦ let e : s ≡ t = eqb-true s t same in let last : occurs s (ss ++ t ∷ []) ≡ true = subst (λ u. occurs s (ss ++ u ∷ []) ≡ true) e (occurs_last s ss) in
            let gone : occurs t ss ≡ false = subst (λ u. occurs u ss ≡ false) e new in
            let r = rw gone at rest in rw (last, new, same) (r ∙ omega arith)
        | inr other ↦ rw (occurs_other s t ss (eqb_sym s t other), new, other) (ap (λ n. suc n) rest ∙ omega arith)
      ]
    ]
