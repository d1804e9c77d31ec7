-- The first among numbered things.
use Rattle.std.proofs.Common.{◌≡◌, ℕ, zero, suc, ◌+◌, ◌<◌, Bool, true, false, cond, Option, Some, None, refl, ap, subst, inl, inr, arith, add-one}
use Rattle.std.specs.Prelude.{◌||◌, is_some, IfNone}
use Rattle.std.specs.Option.{option_or}
use Rattle.std.proofs.lemmas.Bool.{cases_order}
use Rattle.avr_elf.specs.First.{first_of, first_index}

-- what is there behind nothing is the first, however much may follow
pub first_of-at : {X : Type 0} (f : ℕ → Option X) (n i : ℕ) (x : X) → i < n → first_of f i ≡ None → f i ≡ Some x → first_of f n ≡ Some x
first_of-at f zero i x lt none here = absurd (omega arith)
first_of-at {X} f (suc n) i x lt none here =
    elim (cases_order i n) [
      | inl e ↦ let m = subst (λ (k : ℕ). first_of f k ≡ None) e none in rw m (rw (← e) here)
      | inr (inl l) ↦ ap (λ (o : Option X). option_or o (f n)) (first_of-at f n i x l none here)
      | inr (inr g) ↦ absurd (omega arith)
    ]

-- one more that is not there
pub first_of-more : {X : Type 0} (f : ℕ → Option X) (i : ℕ) → first_of f i ≡ None → f i ≡ None → first_of f (i + 1) ≡ None
first_of-more f i none here = rw (add-one, none) here

-- a choice that gives nothing had nothing on either side
pub none_or : {X : Type 0} (o p : Option X) → option_or o p ≡ None → (o ≡ None) × (p ≡ None)
none_or None p e = (refl, e)
none_or (Some x) p e = absurd cc

-- a fact that holds where there is no value
pub IfNone-from : {X : Type 0} (o : Option X) (P : Type 0) → (o ≡ None → P) → IfNone o P
IfNone-from None P f = f refl
IfNone-from (Some x) P f = tt

-- where there is no first, there is none
pub first_of-none : {X : Type 0} (f : ℕ → Option X) (n i : ℕ) → first_of f n ≡ None → i < n → f i ≡ None
first_of-none f zero i none lt = absurd (omega arith)
first_of-none f (suc n) i none lt =
    let parts = none_or (first_of f n) (f n) none in
    elim (cases_order i n) [
      | inl e ↦ rw e parts.1
      | inr (inl l) ↦ first_of-none f n i parts.0 l
      | inr (inr g) ↦ absurd (omega arith)
    ]

-- a number that passes behind none that does is the first
pub first_index-at : (p : ℕ → Bool) (n i : ℕ) → i < n → first_index p i ≡ None → p i ≡ true → first_index p n ≡ Some i
first_index-at p n i lt none passes = first_of-at (λ k. cond (p k) (Some k) None) n i i lt none (rw passes refl)

-- whether some number below the next passes
pub first_index-more : (p : ℕ → Bool) (i : ℕ) → is_some (first_index p (i + 1)) ≡ (is_some (first_index p i) || p i)
first_index-more p i = rw add-one (either (first_index p i) (p i))
  where
    either : (o : Option ℕ) (b : Bool) → is_some (option_or o (cond b (Some i) None)) ≡ (is_some o || b)
    either None true = refl
    either None false = refl
    either (Some x) b = refl

-- a first number passes, and is below
pub record IsFirst (p : ℕ → Bool) (n i : ℕ) : Type 0 where
  pub below : i < n
  pub passes : p i ≡ true

pub first_index-some : (p : ℕ → Bool) (n i : ℕ) → first_index p n ≡ Some i → IsFirst p n i
first_index-some p zero i e = absurd cc
first_index-some p (suc n) i e = from (first_index p n) (p n) (first_index-some p n) refl refl e
  where
    from : (o : Option ℕ) (b : Bool) → ((j : ℕ) → o ≡ Some j → IsFirst p n j) → first_index p n ≡ o → p n ≡ b → option_or o (cond b (Some n) None) ≡ Some i → IsFirst p (suc n) i
    from (Some x) b before is here e = let f = before i e in record { below = omega arith; passes = f.passes }
    from None true before is here e = let same : n ≡ i = cc in record { below = omega arith; passes = rw (← same) here }
    from None false before is here e = absurd cc
