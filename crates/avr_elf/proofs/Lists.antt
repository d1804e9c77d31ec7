-- Lists of numbered things, and what is read of lists.
use Rattle.std.proofs.Common.{◌≡◌, ℕ, ◌-◌, ◌<◌, ◌≤◌, Bool, true, false, cond, Some, None, List, length, get_or, take, refl, sym, ap, ◌∙◌, inl, inr, arith, length-drop}
use Rattle.std.specs.Prelude.{nat_lt, slice_get, slice_range, replicate}
use Rattle.std.specs.List.{position, position_or_len, before_first}
use Rattle.std.proofs.lemmas.Bool.{cases_order, ltb-false}
use Rattle.std.proofs.lemmas.List.{get_or-replicate, get_or_past, length-replicate, length-take, same_lists, take_all}
use Rattle.std.proofs.lemmas.List.FromFn.{length-map-range_with_len, get_or-map-range_with_len}
use Rattle.std.proofs.lemmas.Option.{slice_get-get_or, get_or_from_slice_get}
use Rattle.avr_elf.specs.First.{list_of}

-- a list of numbered things has as many as were asked for
pub length-list_of : {X : Type 0} (f : ℕ → X) (n : ℕ) → length (list_of f n) ≡ n
length-list_of f n = length-map-range_with_len f 0 n

-- and the one of number i at place i
pub slice_get-list_of : {X : Type 0} (f : ℕ → X) (n i : ℕ) → i < n → slice_get (list_of f n) i ≡ Some (f i)
slice_get-list_of f n i lt =
    let within : i < length (list_of f n) = omega (arith, length-list_of f n) in
    slice_get-get_or (list_of f n) i (f i) within ∙ ap (λ x. Some x) (get_or-map-range_with_len f 0 n i i (f i) lt (omega arith))

-- a part of a list has its length
pub length-slice_range : {X : Type 0} (xs : List X) (i j : ℕ) → j ≤ length xs → length (slice_range xs i j) ≡ j - i
length-slice_range xs i j within = simp (length-drop, length-take) (omega arith)

-- lists with the same elements are the same
pub same_elements : {X : Type 0} (xs ys : List X) (n : ℕ) → length xs ≡ n → length ys ≡ n → ((i : ℕ) → i < n → slice_get xs i ≡ slice_get ys i) → xs ≡ ys
same_elements {X} xs ys n left right each =
    same_lists xs ys (left ∙ sym right) (λ k d lt. get_or_from_slice_get xs k (get_or ys k d) d (each k (omega arith) ∙ slice_get-get_or ys k d (omega arith)))

-- a list of one value gives it everywhere, past its end too
pub get_or-replicate_same : {X : Type 0} (n k : ℕ) (x : X) → get_or (replicate n x) k x ≡ x
get_or-replicate_same n k x =
    elim (cases_order k n) [
      | inl e ↦ get_or_past (replicate n x) k x (omega (arith, length-replicate n x))
      | inr (inl l) ↦ get_or-replicate n k x x l
      | inr (inr g) ↦ get_or_past (replicate n x) k x (omega (arith, length-replicate n x))
    ]

-- what stands before the first place that passes
pub before_first-some : {X : Type 0} (p : X → Bool) (xs : List X) (n : ℕ) → position p xs ≡ Some n → take n xs ≡ before_first p xs
before_first-some {X} p xs n e = from (nat_lt (position_or_len p xs) (length xs)) e
  where
    from : (b : Bool) → cond b (Some (position_or_len p xs)) None ≡ Some n → take n xs ≡ before_first p xs
    from true h = let same : position_or_len p xs ≡ n = cc in ap (λ (k : ℕ). take k xs) (sym same)
    from false h = absurd cc

-- all, where no place passes
pub before_first-none : {X : Type 0} (p : X → Bool) (xs : List X) → position p xs ≡ None → xs ≡ before_first p xs
before_first-none {X} p xs e = from (nat_lt (position_or_len p xs) (length xs)) refl e
  where
    from : (b : Bool) → nat_lt (position_or_len p xs) (length xs) ≡ b → cond b (Some (position_or_len p xs)) None ≡ None → xs ≡ before_first p xs
    from true is h = absurd cc
    from false is h = sym (take_all (position_or_len p xs) xs (ltb-false _ _ is))
