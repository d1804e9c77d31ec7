-- The first among numbered things, and lists made along numbers.
use Rattle.std.proofs.Common.{◌≡◌, ℕ, zero, suc, ◌+◌, ◌<◌, Bool, cond, Option, Some, None, List, [], ◌∷◌, ◌++◌, refl, sym, ap, subst, ◌∙◌, inl, inr, arith, add-one, append-nil}
use Rattle.std.specs.Option.{option_or}
use Rattle.std.specs.List.{flat_map, filter, range_with_len}
use Rattle.std.proofs.lemmas.Bool.{cases_order}
use Rattle.std.proofs.lemmas.Grind.{flat_map-append}
use Rattle.std.proofs.lemmas.List.Elements.{filter-append}
use Rattle.avr_elf.specs.First.{first_of}
use Rattle.object_packer.specs.declared.fault.PackFault.{PackFault}
use Rattle.object_packer.specs.declared.fault.PackFault.TheVariants as faults
use Rattle.object_packer.specs.Faults.{Says}

-- what is there behind nothing is the first, however much may follow
pub first_of-at : {X : Type 0} (f : ℕ → Option X) (n i : ℕ) (x : X) → i < n → first_of f i ≡ None → f i ≡ Some x → first_of f n ≡ Some x
first_of-at f zero i x lt none here = absurd (omega arith)
first_of-at {X} f (suc n) i x lt none here =
    elim (cases_order i n) [
      | inl e ↦ let m = subst (λ (k : ℕ). first_of f k ≡ None) e none in rw m (rw (← e) here)
      | inr (inl l) ↦ ap (λ (o : Option X). option_or o (f n)) (first_of-at f n i x l none here)
      | inr (inr g) ↦ absurd (omega arith)
    ]

-- one more that is not there
pub first_of-more : {X : Type 0} (f : ℕ → Option X) (i : ℕ) → first_of f i ≡ None → f i ≡ None → first_of f (i + 1) ≡ None
first_of-more f i none here = rw (add-one, none) here

-- a choice that gives nothing had nothing on either side
pub none_or : {X : Type 0} (o p : Option X) → option_or o p ≡ None → (o ≡ None) × (p ≡ None)
none_or None p e = (refl, e)
none_or (Some x) p e = absurd cc

-- where there is no first, there is none
pub first_of-none : {X : Type 0} (f : ℕ → Option X) (n i : ℕ) → first_of f n ≡ None → i < n → f i ≡ None
first_of-none f zero i none lt = absurd (omega arith)
first_of-none f (suc n) i none lt =
    let parts = none_or (first_of f n) (f n) none in
    elim (cases_order i n) [
      | inl e ↦ rw e parts.1
      | inr (inl l) ↦ first_of-none f n i parts.0 l
      | inr (inr g) ↦ absurd (omega arith)
    ]

-- a fault says itself
pub says_it : (f : PackFault) (o : Option PackFault) → o ≡ Some f → Says f o
says_it (faults.Section section) o e = e
says_it (faults.Common symbol) o e = e
says_it (faults.Kind section entry kind) o e = e
says_it (faults.Addend section entry) o e = e
says_it (faults.Field section entry) o e = e
says_it (faults.Size total) o e = e
says_it (faults.Absolute symbol) o e = e
says_it (faults.NameTwice symbol) o e = e
says_it faults.Memory o e = tt

-- what is said of one is said of all, where nothing comes before it
pub says_at : (f : ℕ → Option PackFault) (n i : ℕ) (fault : PackFault) → i < n → first_of f i ≡ None → Says fault (f i) → Says fault (first_of f n)
says_at f n i (faults.Section section) lt none s = first_of-at f n i _ lt none s
says_at f n i (faults.Common symbol) lt none s = first_of-at f n i _ lt none s
says_at f n i (faults.Kind section entry kind) lt none s = first_of-at f n i _ lt none s
says_at f n i (faults.Addend section entry) lt none s = first_of-at f n i _ lt none s
says_at f n i (faults.Field section entry) lt none s = first_of-at f n i _ lt none s
says_at f n i (faults.Size total) lt none s = first_of-at f n i _ lt none s
says_at f n i (faults.Absolute symbol) lt none s = first_of-at f n i _ lt none s
says_at f n i (faults.NameTwice symbol) lt none s = first_of-at f n i _ lt none s
says_at f n i faults.Memory lt none s = tt

-- what is said of the first of two is said of both, and what is said of the second where the first is not there
pub says_first : (fault : PackFault) (o p : Option PackFault) → Says fault o → Says fault (option_or o p)
says_first (faults.Section section) o p s = rw s refl
says_first (faults.Common symbol) o p s = rw s refl
says_first (faults.Kind section entry kind) o p s = rw s refl
says_first (faults.Addend section entry) o p s = rw s refl
says_first (faults.Field section entry) o p s = rw s refl
says_first (faults.Size total) o p s = rw s refl
says_first (faults.Absolute symbol) o p s = rw s refl
says_first (faults.NameTwice symbol) o p s = rw s refl
says_first faults.Memory o p s = tt

pub says_second : (fault : PackFault) (o p : Option PackFault) → o ≡ None → Says fault p → Says fault (option_or o p)
says_second fault o p none s = subst (λ (q : Option PackFault). Says fault (option_or q p)) (sym none) s

-- one number more
range_from : (a n : ℕ) → range_with_len a (suc n) ≡ range_with_len a n ++ (a + n) ∷ []
range_from a zero = ap (λ k. k ∷ []) (omega arith)
range_from a (suc n) = let same : a + 1 + n ≡ a + suc n = omega arith in
    ap (λ ks. a ∷ ks) (range_from (a + 1) n ∙ ap (λ k. range_with_len (a + 1) n ++ k ∷ []) same)

pub range_more : (n : ℕ) → range_with_len 0 (n + 1) ≡ range_with_len 0 n ++ n ∷ []
range_more n = ap (λ (k : ℕ). range_with_len 0 k) (add-one n) ∙ range_from 0 n ∙ ap (λ k. range_with_len 0 n ++ k ∷ []) (omega arith)

pub flat_map_more : {X : Type 0} (f : ℕ → List X) (n : ℕ) → flat_map f (range_with_len 0 (n + 1)) ≡ flat_map f (range_with_len 0 n) ++ f n
flat_map_more f n = ap (flat_map f) (range_more n) ∙ flat_map-append f (range_with_len 0 n) (n ∷ []) ∙ ap (λ xs. flat_map f (range_with_len 0 n) ++ xs) (append-nil (f n))

pub filter_more : (p : ℕ → Bool) (n : ℕ) → filter p (range_with_len 0 (n + 1)) ≡ filter p (range_with_len 0 n) ++ cond (p n) (n ∷ []) []
filter_more p n = ap (filter p) (range_more n) ∙ filter-append p (range_with_len 0 n) (n ∷ [])
