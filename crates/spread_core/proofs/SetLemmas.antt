-- Sets of small numbers, and the least number that passes a test.
use Rattle.std.proofs.Common.{◌≡◌, ◌≢◌, ℕ, zero, suc, ◌+◌, ◌<◌, ◌^◌, ◌==◌, ◌&&◌, Bool, true, false, cond, Option, Some, None, refl, sym, ap, subst, ◌∙◌, inl, inr, arith, add-one}
use Rattle.std.specs.Prelude.{nat_lt, unwrap_or, ◌⊎◌}
use Rattle.std.specs.Option.{option_or, option_map_or}
use Rattle.std.specs.Int.{bit_at}
use Rattle.std.proofs.lemmas.Bool.{eqb-true, eq-eqb, lt-ltb, le-ltb, cases_order, cases_eq, cond-true, cond-false}
use Rattle.std.proofs.lemmas.Nat.Bits.{bit_at_or, bit_at-pow_same, bit_at-pow_other, bit_at-lt, bit_at-zero}
use Rattle.spread_core.specs.Sets.{has, with_bit, set_of, least}

-- ---- members

pub has-with_same : (s k : ℕ) → has (with_bit s k) k ≡ true
has-with_same s k =
    let e : bit_at (with_bit s k) k ≡ 1 = omega (arith, bit_at_or s (2 ^ k) k, bit_at-pow_same k, bit_at-lt s k, bit_at-lt (with_bit s k) k) in
    eq-eqb (bit_at (with_bit s k) k) 1 e

pub has-with_other : (s k j : ℕ) → j ≢ k → has (with_bit s k) j ≡ has s j
has-with_other s k j ne =
    let e : bit_at (with_bit s k) j ≡ bit_at s j = omega (arith, bit_at_or s (2 ^ k) j, bit_at-pow_other k j ne) in
    ap (λ (n : ℕ). n == 1) e

pub has-none : (k : ℕ) → has 0 k ≡ false
has-none k = ap (λ (n : ℕ). n == 1) (bit_at-zero k)

pub none_has : (k : ℕ) → has 0 k ≡ true → ⊥
none_has k h = let one = eqb-true (bit_at 0 k) 1 h in absurd (omega (arith, one, bit_at-zero k))

-- ---- the set of what passes a test

pub set_of-more : (f : ℕ → Bool) (n : ℕ) → f n ≡ true → set_of f (n + 1) ≡ with_bit (set_of f n) n
set_of-more f n here = rw (add-one, here) refl

pub set_of-same : (f : ℕ → Bool) (n : ℕ) → f n ≡ false → set_of f (n + 1) ≡ set_of f n
set_of-same f n here = rw (add-one, here) refl

and_false : (b : Bool) → (b && false) ≡ false
and_false true = refl
and_false false = refl

-- what is in such a set is below its bound and passes
pub has-set_of : (f : ℕ → Bool) (n k : ℕ) → has (set_of f n) k ≡ (nat_lt k n && f k)
has-set_of f zero k = has-none k ∙ sym (ap (λ (b : Bool). b && f k) (le-ltb k 0 (omega arith)))
has-set_of f (suc n) k = by_last (has-set_of f n k) (f n) refl
  where
    at_last : (b : Bool) → f n ≡ b → k ≡ n → nat_lt k (suc n) && f k ≡ b
    at_last b here e = rw (lt-ltb k (suc n) (omega (arith, e)), e, here) refl

    below : has (set_of f n) k ≡ (nat_lt k n && f k) → k ≢ n → has (set_of f n) k ≡ (nat_lt k (suc n) && f k)
    below before ne =
        elim (cases_order k n) [
          | inl e ↦ absurd (ne e)
          | inr (inl l) ↦ before ∙ ap (λ (b : Bool). b && f k) (lt-ltb k n l ∙ sym (lt-ltb k (suc n) (omega (arith, l))))
          | inr (inr g) ↦ before ∙ ap (λ (b : Bool). b && f k) (le-ltb k n (omega (arith, g)) ∙ sym (le-ltb k (suc n) (omega (arith, g))))
        ]

    by_last : has (set_of f n) k ≡ (nat_lt k n && f k) → (b : Bool) → f n ≡ b → has (set_of f (suc n)) k ≡ (nat_lt k (suc n) && f k)
    by_last before true here =
        ap (λ (s : ℕ). has s k) (cond-true (f n) (with_bit (set_of f n) n) (set_of f n) here)
        ∙ elim (cases_eq k n) [
          | inl e ↦ subst (λ (j : ℕ). has (with_bit (set_of f n) n) j ≡ true) (sym e) (has-with_same (set_of f n) n) ∙ sym (at_last true here e)
          | inr ne ↦ has-with_other (set_of f n) n k ne ∙ below before ne
        ]
    by_last before false here =
        ap (λ (s : ℕ). has s k) (cond-false (f n) (with_bit (set_of f n) n) (set_of f n) here)
        ∙ elim (cases_eq k n) [
          | inl e ↦ before ∙ ap (λ (b : Bool). b && f k) (le-ltb k n (omega (arith, e))) ∙ sym (at_last false here e)
          | inr ne ↦ below before ne
        ]

-- nothing passes where the set is empty
pub empty-set_of : (f : ℕ → Bool) (n i : ℕ) → set_of f n ≡ 0 → i < n → f i ≡ false
empty-set_of f n i e lt = sym (ap (λ (b : Bool). b && f i) (lt-ltb i n lt)) ∙ sym (has-set_of f n i) ∙ ap (λ (s : ℕ). has s i) e ∙ has-none i

-- and it is empty where nothing passes
pub set_of-empty : (f : ℕ → Bool) (n : ℕ) → ((i : ℕ) → i < n → f i ≡ false) → set_of f n ≡ 0
set_of-empty f zero none = refl
set_of-empty f (suc n) none = cond-false (f n) (with_bit (set_of f n) n) (set_of f n) (none n (omega arith)) ∙ set_of-empty f n (λ i lt. none i (omega (arith, lt)))

-- ---- the least number

-- a number that passes behind none that does is the least
pub least-at : (f : ℕ → Bool) (n i : ℕ) → i < n → least f i ≡ None → f i ≡ true → least f n ≡ Some i
least-at f zero i lt none here = absurd (omega arith)
least-at f (suc n) i lt none here =
    elim (cases_order i n) [
      | inl e ↦
          let m = subst (λ (k : ℕ). least f k ≡ None) e none in
          let t = subst (λ (k : ℕ). f k ≡ true) e here in
          rw (m, t) (ap (λ (k : ℕ). Some k) (sym e))
      | inr (inl l) ↦ ap (λ (o : Option ℕ). option_or o (cond (f n) (Some n) None)) (least-at f n i l none here)
      | inr (inr g) ↦ absurd (omega arith)
    ]

-- none passes here either
pub least-more : (f : ℕ → Bool) (i : ℕ) → least f i ≡ None → f i ≡ false → least f (i + 1) ≡ None
least-more f i none here = rw (add-one, none, here) refl

or_none : (o : Option ℕ) (b : Bool) (n : ℕ) → option_or o (cond b (Some n) None) ≡ None → (o ≡ None) × (b ≡ false)
or_none (Some x) b n e = absurd cc
or_none None true n e = absurd cc
or_none None false n e = (refl, refl)

-- none below n passes
pub least-none : (f : ℕ → Bool) (n i : ℕ) → least f n ≡ None → i < n → f i ≡ false
least-none f zero i e lt = absurd (omega arith)
least-none f (suc n) i e lt =
    let o = or_none (least f n) (f n) n e in
    elim (cases_order i n) [
      | inl same ↦ subst (λ (k : ℕ). f k ≡ false) (sym same) o.1
      | inr (inl l) ↦ least-none f n i o.0 l
      | inr (inr g) ↦ absurd (omega arith)
    ]

-- what it is to be the least
pub record IsLeast (f : ℕ → Bool) (n p : ℕ) : Type 0 where
  pub below : p < n
  pub here : f p ≡ true
  pub first : (q : ℕ) → q < p → f q ≡ false

or_found : (o : Option ℕ) (b : Bool) (n p : ℕ) → option_or o (cond b (Some n) None) ≡ Some p → (o ≡ Some p) ⊎ ((o ≡ None) × (b ≡ true) × (n ≡ p))
or_found (Some x) b n p e = inl e
or_found None true n p e = inr (refl, refl, ap (λ (o : Option ℕ). unwrap_or o 0) e)
or_found None false n p e = absurd cc

pub least_found : (f : ℕ → Bool) (n p : ℕ) → least f n ≡ Some p → IsLeast f n p
least_found f zero p e = absurd cc
least_found f (suc n) p e =
    elim (or_found (least f n) (f n) n p e) [
      | inl l ↦ let h = least_found f n p l in record { below = omega (arith, h.below); here = h.here; first = h.first }
      | inr h ↦ record {
        below = omega (arith, h.2);
        here = subst (λ (k : ℕ). f k ≡ true) h.2 h.1;
        first = λ q lt. least-none f n q h.0 (omega (arith, h.2, lt));
      }
    ]

pub option_both : {A : Type 0} (o : Option ℕ) (g : ℕ → A) (d : A) (P : A → Type 0) → P d → ((p : ℕ) → o ≡ Some p → P (g p)) → P (option_map_or g o d)
option_both None g d P none some = none
option_both (Some p) g d P none some = some p refl

pub both : (a b : Bool) → a ≡ true → b ≡ true → (a && b) ≡ true
both a b p q = rw (p, q) refl
