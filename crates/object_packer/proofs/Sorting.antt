-- A stable sort gives the list in the order of a number.
use Rattle.std.proofs.Common.{◌≡◌, ℕ, suc, ◌<◌, ◌≤◌, Bool, true, false, cond, List, [], ◌∷◌, length, get_or, refl, sym, ap, ◌∙◌, inl, inr, arith, nat_cmp, eqb, leb}
use Rattle.std.specs.Prelude.{not, ◌&&◌}
use Rattle.std.specs.List.{filter, AllByRecursion}
use Rattle.std.specs.List.Sorted.{IsNonDecreasingBy, IsStableByKey, ties}
use Rattle.std.specs.Ordering.{is_lt}
use Rattle.std.proofs.lemmas.Bool.{cases_order, leb-true, leb-false, eqb-true}
use Rattle.std.proofs.lemmas.Bool.Decides.{nat_tests}
use Rattle.object_packer.specs.Order.{insert_by, sorted_by}

-- numbers rise, from `low` on
abbrev pub Rises : {X : Type 0} → (X → ℕ) → ℕ → List X → Type 0
Rises key low [] = Unit {0}
Rises key low (x ∷ xs) = (low ≤ key x) × Rises key (key x) xs

abbrev pub has : {X : Type 0} → (X → ℕ) → ℕ → X → Bool
has key n x = eqb (key x) n

-- ---- the definition sorts

insert_rises : {X : Type 0} (key : X → ℕ) (x : X) (low : ℕ) (ys : List X) → low ≤ key x → Rises key low ys → Rises key low (insert_by key x ys)
insert_rises key x low [] le r = (le, tt)
insert_rises key x low (y ∷ ys) le r = from (leb (key x) (key y)) refl (λ above. insert_rises key x (key y) ys above r.1)
  where
    from : (b : Bool) → leb (key x) (key y) ≡ b → (key y ≤ key x → Rises key (key y) (insert_by key x ys)) → Rises key low (cond b (x ∷ y ∷ ys) (y ∷ insert_by key x ys))
    from true e rest = (le, (leb-true (key x) (key y) e, r.1))
    from false e rest = (r.0, rest (omega (arith, leb-false (key x) (key y) e)))

lower : {X : Type 0} (key : X → ℕ) (low high : ℕ) (xs : List X) → low ≤ high → Rises key high xs → Rises key low xs
lower key low high [] le r = tt
lower key low high (x ∷ xs) le r = (omega (arith, le, r.0), r.1)

pub sorted_rises : {X : Type 0} (key : X → ℕ) (xs : List X) → Rises key 0 (sorted_by key xs)
sorted_rises key [] = tt
sorted_rises key (x ∷ xs) = insert_rises key x 0 (sorted_by key xs) (omega arith) (sorted_rises key xs)

insert_keeps : {X : Type 0} (key : X → ℕ) (n : ℕ) (x : X) (ys : List X) → filter (has key n) (insert_by key x ys) ≡ cond (has key n x) (x ∷ filter (has key n) ys) (filter (has key n) ys)
insert_keeps key n x [] = refl
insert_keeps key n x (y ∷ ys) = from (leb (key x) (key y)) refl (insert_keeps key n x ys)
  where
    behind : (a b : Bool) → has key n x ≡ a → has key n y ≡ b → key y < key x
        → cond b (y ∷ cond a (x ∷ filter (has key n) ys) (filter (has key n) ys)) (cond a (x ∷ filter (has key n) ys) (filter (has key n) ys))
        ≡ cond a (x ∷ cond b (y ∷ filter (has key n) ys) (filter (has key n) ys)) (cond b (y ∷ filter (has key n) ys) (filter (has key n) ys))
    behind true true p q lt = absurd (omega (arith, lt, eqb-true (key x) n p, eqb-true (key y) n q))
    behind true false p q lt = refl
    behind false b p q lt = refl

    from : (b : Bool) → leb (key x) (key y) ≡ b → filter (has key n) (insert_by key x ys) ≡ cond (has key n x) (x ∷ filter (has key n) ys) (filter (has key n) ys)
        → filter (has key n) (cond b (x ∷ y ∷ ys) (y ∷ insert_by key x ys)) ≡ cond (has key n x) (x ∷ filter (has key n) (y ∷ ys)) (filter (has key n) (y ∷ ys))
    from true e rest = refl
    from false e rest =
        ap (λ zs. cond (has key n y) (y ∷ zs) zs) rest ∙ behind (has key n x) (has key n y) refl refl (omega (arith, leb-false (key x) (key y) e))

pub sorted_keeps : {X : Type 0} (key : X → ℕ) (n : ℕ) (xs : List X) → filter (has key n) (sorted_by key xs) ≡ filter (has key n) xs
sorted_keeps key n [] = refl
sorted_keeps key n (x ∷ xs) = insert_keeps key n x (sorted_by key xs) ∙ ap (λ zs. cond (has key n x) (x ∷ zs) zs) (sorted_keeps key n xs)

-- ---- lists that rise and have the same elements of each number are the same

none_below : {X : Type 0} (key : X → ℕ) (n low : ℕ) (xs : List X) → n < low → Rises key low xs → filter (has key n) xs ≡ []
none_below key n low [] lt r = refl
none_below key n low (x ∷ xs) lt r =
    let other : has key n x ≡ false = (let above = r.0 in grind (arith, nat_tests)) in
    ap (λ b. cond b (x ∷ filter (has key n) xs) (filter (has key n) xs)) other ∙ none_below key n (key x) xs (omega (arith, lt, r.0)) r.1

itself : {X : Type 0} (key : X → ℕ) (x : X) (xs : List X) → filter (has key (key x)) (x ∷ xs) ≡ x ∷ filter (has key (key x)) xs
itself key x xs = let same : has key (key x) x ≡ true = grind (arith, nat_tests) in ap (λ b. cond b (x ∷ filter (has key (key x)) xs) (filter (has key (key x)) xs)) same

pub same_sorted : {X : Type 0} (key : X → ℕ) (low high : ℕ) (ys zs : List X) → Rises key low ys → Rises key high zs
    → ((x : X) → filter (has key (key x)) ys ≡ filter (has key (key x)) zs) → ys ≡ zs
same_sorted key low high [] [] r s e = refl
same_sorted key low high [] (z ∷ zs) r s e = absurd (let h = e z ∙ itself key z zs in cc)
same_sorted key low high (y ∷ ys) [] r s e = absurd (let h = sym (itself key y ys) ∙ e y in cc)
same_sorted {X} key low high (y ∷ ys) (z ∷ zs) r s e =
    elim (cases_order (key y) (key z)) [
      | inl same ↦
          let here = sym (itself key y ys) ∙ e y ∙ ap (λ n. filter (has key n) (z ∷ zs)) same ∙ itself key z zs in
          let first : y ≡ z = cc in
          let rest = same_sorted key (key y) (key z) ys zs r.1 s.1 (λ x. drop_first (key x) first (e x)) in
          both first rest
      | inr (inl lt) ↦ absurd (let h = sym (itself key y ys) ∙ e y ∙ none_below key (key y) (key z) (z ∷ zs) lt (omega arith, s.1) in cc)
      | inr (inr gt) ↦ absurd (let h = sym (none_below key (key z) (key y) (y ∷ ys) gt (omega arith, r.1)) ∙ e z ∙ itself key z zs in cc)
    ]
  where
    both : y ≡ z → ys ≡ zs → y ∷ ys ≡ z ∷ zs
    both p q = cc

    strip : (n : ℕ) (b : Bool) → cond b (y ∷ filter (has key n) ys) (filter (has key n) ys) ≡ cond b (y ∷ filter (has key n) zs) (filter (has key n) zs) → filter (has key n) ys ≡ filter (has key n) zs
    strip n true h = cc
    strip n false h = h

    drop_first : (n : ℕ) → y ≡ z → filter (has key n) (y ∷ ys) ≡ filter (has key n) (z ∷ zs) → filter (has key n) ys ≡ filter (has key n) zs
    drop_first n p h = strip n (has key n y) (h ∙ ap (λ w. cond (has key n w) (w ∷ filter (has key n) zs) (filter (has key n) zs)) (sym p))

-- ---- what a stable sort ensures

rises_from : {X : Type 0} (key : X → ℕ) (low : ℕ) (xs : List X) → ((d : X) → 0 < length xs → low ≤ key (get_or xs 0 d)) → IsNonDecreasingBy key xs → Rises key low xs
rises_from key low [] first up = tt
rises_from key low (x ∷ xs) first up =
    (first x (omega arith), rises_from key (key x) xs (λ d some. up 0 1 d (omega arith) (omega (arith, some))) (λ i j d le lt. up (suc i) (suc j) d (omega (arith, le)) (omega (arith, lt))))

filter_same : {X : Type 0} (p q : X → Bool) (xs : List X) → ((x : X) → p x ≡ q x) → filter p xs ≡ filter q xs
filter_same p q [] e = refl
filter_same p q (x ∷ xs) e = ap (λ b. cond b (x ∷ filter p xs) (filter p xs)) (e x) ∙ ap (λ zs. cond (q x) (x ∷ zs) zs) (filter_same p q xs e)

tie : (m n : ℕ) → (not (is_lt (nat_cmp m n)) && not (is_lt (nat_cmp n m))) ≡ eqb n m
tie m n =
    elim (cases_order m n) [
      | inl e ↦ grind (arith, nat_tests)
      | inr (inl lt) ↦ grind (arith, nat_tests)
      | inr (inr gt) ↦ grind (arith, nat_tests)
    ]

-- a list that a stable sort made
pub stable_sorted : {X : Type 0} (key : X → ℕ) (xs ys : List X) → IsNonDecreasingBy key ys → IsStableByKey key nat_cmp xs ys → ys ≡ sorted_by key xs
stable_sorted {X} key xs ys up stable =
    same_sorted key 0 0 ys (sorted_by key xs) (rises_from key 0 ys (λ d some. omega arith) up) (sorted_rises key xs) each
  where
    tied : (x y : X) → ties (λ a b. is_lt (nat_cmp (key a) (key b))) x y ≡ has key (key x) y
    tied x y = tie (key x) (key y)

    each : (x : X) → filter (has key (key x)) ys ≡ filter (has key (key x)) (sorted_by key xs)
    each x =
        sym (filter_same (ties (λ a b. is_lt (nat_cmp (key a) (key b))) x) (has key (key x)) ys (tied x)) ∙ stable x
        ∙ filter_same (ties (λ a b. is_lt (nat_cmp (key a) (key b))) x) (has key (key x)) xs (tied x) ∙ sym (sorted_keeps key (key x) xs)

-- ---- what a sort keeps

length_inserted : {X : Type 0} (key : X → ℕ) (x : X) (ys : List X) → length (insert_by key x ys) ≡ suc (length ys)
length_inserted key x [] = refl
length_inserted key x (y ∷ ys) = from (leb (key x) (key y)) (length_inserted key x ys)
  where
    from : (b : Bool) → length (insert_by key x ys) ≡ suc (length ys) → length (cond b (x ∷ y ∷ ys) (y ∷ insert_by key x ys)) ≡ suc (suc (length ys))
    from true rest = refl
    from false rest = ap suc rest

pub length_sorted : {X : Type 0} (key : X → ℕ) (xs : List X) → length (sorted_by key xs) ≡ length xs
length_sorted key [] = refl
length_sorted key (x ∷ xs) = length_inserted key x (sorted_by key xs) ∙ ap suc (length_sorted key xs)

all_inserted : {X : Type 0} (key : X → ℕ) (P : X → Type 0) (x : X) (ys : List X) → P x → AllByRecursion P ys → AllByRecursion P (insert_by key x ys)
all_inserted key P x [] one all = (one, tt)
all_inserted key P x (y ∷ ys) one all = from (leb (key x) (key y)) (all_inserted key P x ys one all.1)
  where
    from : (b : Bool) → AllByRecursion P (insert_by key x ys) → AllByRecursion P (cond b (x ∷ y ∷ ys) (y ∷ insert_by key x ys))
    from true rest = (one, all)
    from false rest = (all.0, rest)

pub all_sorted : {X : Type 0} (key : X → ℕ) (P : X → Type 0) (xs : List X) → AllByRecursion P xs → AllByRecursion P (sorted_by key xs)
all_sorted key P [] all = tt
all_sorted key P (x ∷ xs) all = all_inserted key P x (sorted_by key xs) all.0 (all_sorted key P xs all.1)
