-- The first fault among many.
use Rattle.std.proofs.Common.{◌≡◌, ℕ, zero, suc, ◌+◌, ◌<◌, Bool, true, false, cond, Option, Some, None, Result, Err, refl, ap, subst, inl, inr, arith, add-one}
use Rattle.std.specs.Option.{option_or}
use Rattle.std.specs.Result.{result_err}
use Rattle.std.proofs.lemmas.Bool.{cases_order}
use Rattle.component_package.specs.packages.Reading.{first_fault}

-- a fault behind no fault is the first one, however many may follow
pub first_fault-at : {F : Type 0} (f : ℕ → Option F) (n i : ℕ) (x : F) → i < n → first_fault f i ≡ None → f i ≡ Some x → first_fault f n ≡ Some x
first_fault-at f zero i x lt none here = absurd (omega arith)
first_fault-at {F} f (suc n) i x lt none here =
    elim (cases_order i n) [
      | inl e ↦ let m = subst (λ (k : ℕ). first_fault f k ≡ None) e none in rw m (rw (← e) here)
      | inr (inl l) ↦ ap (λ (o : Option F). option_or o (f n)) (first_fault-at f n i x l none here)
      | inr (inr g) ↦ absurd (omega arith)
    ]

-- no fault here either
pub first_fault-more : {F : Type 0} (f : ℕ → Option F) (i : ℕ) → first_fault f i ≡ None → f i ≡ None → first_fault f (i + 1) ≡ None
first_fault-more f i none here = rw (add-one, none) here

-- the first of two is none where both are
pub none_or : {F : Type 0} (o p : Option F) → option_or o p ≡ None → (o ≡ None) × (p ≡ None)
none_or None p e = (refl, e)
none_or (Some x) p e = absurd cc

-- where there is no first fault, there is none
pub no_fault : {F : Type 0} (f : ℕ → Option F) (n i : ℕ) → first_fault f n ≡ None → i < n → f i ≡ None
no_fault f zero i none lt = absurd (omega arith)
no_fault f (suc n) i none lt =
    let parts = none_or (first_fault f n) (f n) none in
    elim (cases_order i n) [
      | inl e ↦ rw e parts.1
      | inr (inl l) ↦ no_fault f n i parts.0 l
      | inr (inr g) ↦ absurd (omega arith)
    ]

-- where there is no fault, there is no first one
pub none_first : {F : Type 0} (f : ℕ → Option F) (n : ℕ) → ((i : ℕ) → i < n → f i ≡ None) → first_fault f n ≡ None
none_first f zero none = refl
none_first f (suc n) none = rw (none_first f n (λ i lt. none i (omega arith)), none n (omega arith)) refl

-- equal faults have one first fault
pub first_fault-same : {F : Type 0} (f g : ℕ → Option F) (n : ℕ) → ((i : ℕ) → i < n → f i ≡ g i) → first_fault f n ≡ first_fault g n
first_fault-same f g zero same = refl
first_fault-same f g (suc n) same = rw (first_fault-same f g n (λ i lt. same i (omega arith)), same n (omega arith)) refl

-- a test that found nothing wrong, and what is tested behind it
pub passed : {F : Type 0} (b : Bool) (x : F) (o : Option F) → cond b (Some x) o ≡ None → (b ≡ false) × (o ≡ None)
passed true x o e = absurd cc
passed false x o e = (refl, e)

-- the same for a choice that answers an error where a test is false
pub chosen : {A F : Type 0} (b : Bool) (x : Result A F) (f : F) → result_err (cond b x (Err f)) ≡ None → (b ≡ true) × (result_err x ≡ None)
chosen true x f e = (refl, e)
chosen false x f e = absurd cc

-- and for one that answers an error where a test is true
pub spared : {A F : Type 0} (b : Bool) (x : Result A F) (f : F) → result_err (cond b (Err f) x) ≡ None → (b ≡ false) × (result_err x ≡ None)
spared true x f e = absurd cc
spared false x f e = (refl, e)
