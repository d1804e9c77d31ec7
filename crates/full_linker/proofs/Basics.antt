-- Numbers, and how they compare.
use Rattle.std.proofs.Common.{◌≡◌, ℕ, ◌<◌, inl, inr, true, false, eqb, arith, refl}
use Rattle.std.specs.Prelude.{nat_lt}
use Rattle.std.specs.Ordering.{nat_cmp, is_eq}
use Rattle.std.specs.declared.cmp.Ordering.TheVariants.{Less, Equal, Greater}
use Rattle.std.specs.Cmp.{nat_cmp_is}
use Rattle.std.proofs.lemmas.Bool.{cases_Bool, cases_lt, eqb-true}

-- a number is equal to itself
pub self_equal : (n : ℕ) → eqb n n ≡ true
self_equal n = grind arith

-- a number compares as equal to itself
pub same_at : (n : ℕ) → is_eq (nat_cmp n n) ≡ true
same_at n = rw (← nat_cmp_is n n Equal refl) refl

-- to another number it does not
pub other_at : (m n : ℕ) → eqb m n ≡ false → is_eq (nat_cmp m n) ≡ false
other_at m n e = elim (cases_Bool (nat_lt m n)) [ inl lt ↦ rw lt refl | inr ge ↦ rw (ge, e) refl ]

-- what compares as equal is the same
pub at_same : (m n : ℕ) → is_eq (nat_cmp m n) ≡ true → m ≡ n
at_same m n e =
    elim (cases_Bool (eqb m n)) [
      | inl same ↦ eqb-true m n same
      | inr other ↦ absurd (let f = other_at m n other in cc)
    ]

-- what compares as less is below
pub below_at : (m n : ℕ) → nat_cmp m n ≡ Less → m < n
below_at m n e =
    elim (cases_lt m n) [
      | inl lt ↦ lt
      | inr ge ↦ elim (cases_lt n m) [
        | inl gt ↦ absurd (let f = nat_cmp_is m n Greater gt in cc)
        | inr le ↦ absurd (let f = nat_cmp_is m n Equal (omega (arith, ge, le)) in cc)
      ]
    ]
