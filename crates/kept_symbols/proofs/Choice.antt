-- The export that is chosen, from one component after the other.
use Rattle.std.proofs.Common.{◌≡◌, ℕ, ◌+◌, ◌<◌, ◌≤◌, inl, inr, Bool, true, false, cond, eqb, List, [], ◌∷◌, ◌++◌, take, Option, Some, None, refl, sym, ap, ◌∙◌, arith}
use Rattle.std.specs.Prelude.{not, ◌&&◌, slice_get}
use Rattle.std.specs.List.{find}
use Rattle.std.specs.Option.{option_or, option_map}
use Rattle.std.proofs.lemmas.Bool.{cases_Bool, cases_lt, cases_eq, eq-eqb, ne_eqb, lt-ltb, le-ltb, and_parts}
use Rattle.component_package.specs.declared.part.Export.{Export}
use Rattle.component_package.specs.packages.Component.{Component}
use Rattle.component_package.specs.packages.Grammar.{ExportsRise}
use Rattle.component_package.specs.link.Link.{exports_of, is_strong_export_of}
use Rattle.kept_symbols.specs.Walks.{IsFirst, better_of}
use Rattle.kept_symbols.proofs.Exports.{pick, pairs, own, IsOwnFirst, pick_own, exports_more}

-- of two of one symbol, the first, but where it is weak and the other is not
abbrev both : Option (ℕ × Export) → Option (ℕ × Export) → Option (ℕ × Export)
both None y = y
both (Some x) None = Some x
both (Some x) (Some y) = cond (x.1.weak && not y.1.weak) (Some y) (Some x)

find_append : {X : Type 0} (p : X → Bool) (xs ys : List X) → find p (xs ++ ys) ≡ option_or (find p xs) (find p ys)
find_append p [] ys = refl
find_append p (x ∷ xs) ys = elim (cases_Bool (p x)) [ inl e ↦ rw e refl | inr e ↦ rw e (find_append p xs ys) ]

not_true : (b : Bool) → not b ≡ true → b ≡ false
not_true true e = absurd cc
not_true false e = refl

strong : (s : ℕ) (xs : List (ℕ × Export)) (x : ℕ × Export) → find (is_strong_export_of s) xs ≡ Some x → x.1.weak ≡ false
strong s [] x is = absurd cc
strong s (y ∷ ys) x is =
    elim (cases_Bool (is_strong_export_of s y)) [
      | inl e ↦ let parts = and_parts (eqb y.1.symbol s) (not y.1.weak) e in let f = rw e at is in let h : y ≡ x = cc in ap (λ (z : ℕ × Export). z.1.weak) (sym h) ∙ not_true y.1.weak parts.1
      | inr e ↦ strong s ys x (rw e at is)
    ]

weak : (s : ℕ) (xs : List (ℕ × Export)) (x : ℕ × Export) → find (is_strong_export_of s) xs ≡ None → find (λ y. eqb y.1.symbol s) xs ≡ Some x → x.1.weak ≡ true
weak s [] x none is = absurd cc
weak s (y ∷ ys) x none is =
    elim (cases_Bool (eqb y.1.symbol s)) [
      | inl e ↦ elim (cases_Bool y.1.weak) [
        | inl w ↦ let f = rw e at is in let h : y ≡ x = cc in ap (λ (z : ℕ × Export). z.1.weak) (sym h) ∙ w
        | inr w ↦ absurd (let f = rw (e, w) at none in cc)
      ]
      | inr e ↦ weak s ys x (rw e at none) (rw e at is)
    ]

choose : (a b c d : Option (ℕ × Export)) → ((x : ℕ × Export) → a ≡ Some x → x.1.weak ≡ false) → ((x : ℕ × Export) → a ≡ None → b ≡ Some x → x.1.weak ≡ true) → ((x : ℕ × Export) → c ≡ Some x → x.1.weak ≡ false) → ((x : ℕ × Export) → c ≡ None → d ≡ Some x → x.1.weak ≡ true)
    → option_or (option_or a c) (option_or b d) ≡ both (option_or a b) (option_or c d)
choose (Some x) b (Some y) d p q r t = rw (p x refl) refl
choose (Some x) b None (Some y) p q r t = rw (p x refl) refl
choose (Some x) b None None p q r t = refl
choose None (Some x) (Some y) d p q r t = rw (q x refl refl, r y refl) refl
choose None (Some x) None (Some y) p q r t = rw (q x refl refl, t y refl refl) refl
choose None (Some x) None None p q r t = refl
choose None None (Some y) d p q r t = refl
choose None None None d p q r t = refl

pick_append : (s : ℕ) (xs ys : List (ℕ × Export)) → pick s (xs ++ ys) ≡ both (pick s xs) (pick s ys)
pick_append s xs ys =
    rw (find_append (is_strong_export_of s) xs ys, find_append (λ y. eqb y.1.symbol s) xs ys)
    (choose (find (is_strong_export_of s) xs) (find (λ y. eqb y.1.symbol s) xs) (find (is_strong_export_of s) ys) (find (λ y. eqb y.1.symbol s) ys) (strong s xs) (weak s xs) (strong s ys) (weak s ys))

-- what is chosen of one component more
pick_more : (set : List Component) (k : ℕ) (c : Component) (s : ℕ) → slice_get set k ≡ Some c → ExportsRise 16 c.exports
    → pick s (exports_of (take (k + 1) set)) ≡ both (pick s (exports_of (take k set))) (option_map (λ e. (k, e)) (own s c.exports))
pick_more set k c s at rise = ap (pick s) (exports_more set k c at) ∙ pick_append s (exports_of (take k set)) (pairs k c.exports) ∙ ap (both (pick s (exports_of (take k set)))) (pick_own k c.exports 16 s rise)

-- the first of two that may give something, f before g
better_first : (f h : ℕ → Option (ℕ × Export)) (g : ℕ → Option Export) (k low : ℕ) (chosen : Option (ℕ × Export)) (head : Option Export)
    → ((s : ℕ) → h s ≡ both (f s) (option_map (λ e. (k, e)) (g s))) → IsFirst f low chosen → IsOwnFirst g low head → IsFirst h low (better_of chosen k head)
better_first f h g k low None None is first other = λ s le. is s ∙ rw (first s le, other s le) refl
better_first f h g k low None (Some e) is first other = (other.0, is e.symbol ∙ rw (first e.symbol other.0, other.1) refl, λ s le lt. is s ∙ rw (first s le, other.2 s le lt) refl)
better_first f h g k low (Some x) None is first other = (first.0, is x.1.symbol ∙ rw (first.1, other x.1.symbol first.0) refl, λ s le lt. is s ∙ rw (first.2 s le lt, other s le) refl)
better_first f h g k low (Some x) (Some e) is first other =
    elim (cases_lt e.symbol x.1.symbol) [
      | inl less ↦ rw (lt-ltb e.symbol x.1.symbol less) (other.0, is e.symbol ∙ rw (first.2 e.symbol other.0 less, other.1) refl, λ s le lt. is s ∙ rw (first.2 s le (omega (arith, lt, less)), other.2 s le lt) refl)
      | inr from ↦ rw (le-ltb e.symbol x.1.symbol from) (elim (cases_eq e.symbol x.1.symbol) [
        | inl same ↦ rw (eq-eqb e.symbol x.1.symbol same) (tie same)
        | inr more ↦ rw (ne_eqb e.symbol x.1.symbol more) (first.0, is x.1.symbol ∙ rw (first.1, other.2 x.1.symbol first.0 (omega (arith, from, more))) refl, λ s le lt. is s ∙ rw (first.2 s le lt, other.2 s le (omega (arith, lt, from))) refl)
      ])
    ]
  where
    tie : e.symbol ≡ x.1.symbol → IsFirst h low (cond (x.1.weak && not e.weak) (Some (k, e)) (Some x))
    tie same = go (x.1.weak && not e.weak) refl
      where
        chosen_is : h x.1.symbol ≡ cond (x.1.weak && not e.weak) (Some (k, e)) (Some x)
        chosen_is = let there : g x.1.symbol ≡ Some e = ap g (sym same) ∙ other.1 in is x.1.symbol ∙ rw (first.1, there) refl

        below : (s : ℕ) → low ≤ s → s < x.1.symbol → h s ≡ None
        below s le lt = is s ∙ rw (first.2 s le lt, other.2 s le (omega (arith, lt, same))) refl

        go : (b : Bool) → (x.1.weak && not e.weak) ≡ b → IsFirst h low (cond b (Some (k, e)) (Some x))
        go true e_is = (other.0, ap h same ∙ chosen_is ∙ rw e_is refl, λ s le lt. below s le (omega (arith, lt, same)))
        go false e_is = (first.0, chosen_is ∙ rw e_is refl, below)

-- the first of one component more
pub first_more : (set : List Component) (k low : ℕ) (c : Component) (chosen : Option (ℕ × Export)) (head : Option Export) → slice_get set k ≡ Some c → ExportsRise 16 c.exports
    → IsFirst (λ s. pick s (exports_of (take k set))) low chosen → IsOwnFirst (λ s. own s c.exports) low head → IsFirst (λ s. pick s (exports_of (take (k + 1) set))) low (better_of chosen k head)
first_more set k low c chosen head at rise first other =
    better_first (λ s. pick s (exports_of (take k set))) (λ s. pick s (exports_of (take (k + 1) set))) (λ s. own s c.exports) k low chosen head (λ s. pick_more set k c s at rise) first other
