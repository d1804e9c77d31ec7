-- Lists of entries, and lists that rise.
use Rattle.std.proofs.Common.{◌≡◌, ℕ, zero, suc, ◌+◌, ◌-◌, ◌*◌, ◌<◌, ◌≤◌, true, eqb, Some, List, [], ◌∷◌, ◌++◌, length, drop, get_or, map, replicate, refl, sym, ap, subst, ◌∙◌, arith, slice_range, length-append, append_assoc, add-one}
use Rattle.std.specs.Prelude.{slice_get, Bool}
use Rattle.std.specs.List.{flat_map, range_with_len, list_all, AllByRecursion}
use Rattle.std.proofs.lemmas.List.{append-nil, take_at, drop_at}
use Rattle.std.proofs.lemmas.Bool.{and_parts, eqb-true}
use Rattle.std.proofs.lemmas.List.Folds.{drop_split}
use Rattle.std.proofs.lemmas.List.FromFn.{map-range_with_len_more, fill_by_all, length-map-range_with_len, get_or-map-range_with_len}
use Rattle.std.proofs.lemmas.Grind.{flat_map-append}
use Rattle.std.proofs.lemmas.Option.{slice_get-get_or}
use Rattle.component_package.specs.packages.Reading.{list_of}

-- ---- the first n of what a function numbers

-- one more of them
pub list_of_more : {X : Type 0} (f : ℕ → X) (n : ℕ) → list_of f (suc n) ≡ list_of f n ++ f n ∷ []
list_of_more f n = subst (λ (m : ℕ). list_of f m ≡ list_of f n ++ f n ∷ []) (add-one n) (map-range_with_len_more f 0 n n (omega arith))

-- there are n of them
pub length-list_of : {X : Type 0} (f : ℕ → X) (n : ℕ) → length (list_of f n) ≡ n
length-list_of f n = length-map-range_with_len f 0 n

-- the entry i of such a list
pub slice_get-list_of : {X : Type 0} (f : ℕ → X) (n i : ℕ) → i < n → slice_get (list_of f n) i ≡ Some (f i)
slice_get-list_of f n i lt =
    let within : i < length (list_of f n) = omega (arith, length-list_of f n) in
    slice_get-get_or (list_of f n) i (f i) within ∙ ap (λ x. Some x) (get_or-map-range_with_len f 0 n i i (f i) lt (omega arith))

-- a list of numbers by its cells
pub cells : (xs : List ℕ) (n : ℕ) → length xs ≡ n → xs ≡ map (λ k. get_or xs k 0) (range_with_len 0 n)
cells xs n e = fill_by_all (λ k. get_or xs k 0) xs n 0 e (λ k lt. refl)

-- a list is what numbers its entries
pub list_of_entries : {X : Type 0} (f : ℕ → X) (xs : List X) → ((i : ℕ) (x : X) → slice_get xs i ≡ Some x → f i ≡ x) → list_of f (length xs) ≡ xs
list_of_entries f [] each = refl
list_of_entries f (x ∷ xs) each =
    sym (fill_by_all f (x ∷ xs) (suc (length xs)) x refl (λ k lt. sym (each k (get_or (x ∷ xs) k x) (slice_get-get_or (x ∷ xs) k x lt))))

-- ---- what holds of each element

-- one more element
pub all_more : {X : Type 0} (P : X → Type 0) (xs : List X) (x : X) → AllByRecursion P xs → P x → AllByRecursion P (xs ++ x ∷ [])
all_more P [] x all here = (here, tt)
all_more P (y ∷ ys) x all here = (all.0, all_more P ys x all.1 here)

-- of the elements of a list that a function numbers
pub all_of_list : {X : Type 0} (P : X → Type 0) (f : ℕ → X) (n : ℕ) → ((i : ℕ) → i < n → P (f i)) → AllByRecursion P (list_of f n)
all_of_list P f zero each = tt
all_of_list P f (suc n) each = subst (AllByRecursion P) (sym (list_of_more f n)) (all_more P (list_of f n) (f n) (all_of_list P f n (λ i lt. each i (omega arith))) (each n (omega arith)))

-- of element i
pub all_at : {X : Type 0} (P : X → Type 0) (xs : List X) (i : ℕ) (x : X) → AllByRecursion P xs → slice_get xs i ≡ Some x → P x
all_at P [] i x all here = absurd cc
all_at P (y ∷ ys) zero x all here = let same : y ≡ x = cc in subst P same all.0
all_at P (y ∷ ys) (suc i) x all here = all_at P ys i x all.1 here

-- ---- entries of one width

-- entries that are each the bytes at their places are all the bytes there
pub entries : {X : Type 0} (write : X → List ℕ) (f : ℕ → X) (b : List ℕ) (at w n : ℕ)
    → ((i : ℕ) → i < n → write (f i) ≡ slice_range b (at + w * i) (at + w * i + w))
    → drop at b ≡ flat_map write (list_of f n) ++ drop (at + w * n) b
entries write f b at w zero each = ap (λ k. drop k b) (omega arith)
entries write f b at w (suc n) each =
    let before = entries write f b at w n (λ i lt. each i (omega arith)) in
    let here = drop_split b (at + w * n) (at + w * n + w) (omega arith) in
    let next : at + w * n + w ≡ at + w * suc n = omega arith in
    let more = list_of_more f n in
    let last : flat_map write (f n ∷ []) ≡ slice_range b (at + w * n) (at + w * n + w) = append-nil (write (f n)) ∙ each n (omega arith) in
    before ∙ ap (λ (r : List ℕ). flat_map write (list_of f n) ++ r) (here ∙ ap (λ (r : List ℕ). r ++ drop (at + w * n + w) b) (sym last))
    ∙ sym (append_assoc (flat_map write (list_of f n)) (flat_map write (f n ∷ [])) (drop (at + w * n + w) b))
    ∙ ap (λ (r : List ℕ). r ++ drop (at + w * n + w) b) (sym (flat_map-append write (list_of f n) (f n ∷ [])) ∙ ap (flat_map write) (sym more))
    ∙ ap (λ (k : ℕ). flat_map write (list_of f (suc n)) ++ drop k b) next

-- the bytes of an entry among entries of one width
pub entry_in : {X : Type 0} (write : X → List ℕ) (w : ℕ) → ((x : X) → length (write x) ≡ w) → (xs : List X) (front back : List ℕ) (i : ℕ) (x : X)
    → slice_get xs i ≡ Some x
    → slice_range (front ++ (flat_map write xs ++ back)) (length front + w * i) (length front + w * i + w) ≡ write x
entry_in write w wide [] front back i x here = absurd cc
entry_in write w wide (y ∷ ys) front back zero x here =
    let same : y ≡ x = cc in
    let at : length front + w * 0 ≡ length front = omega arith in
    let grouped : flat_map write (y ∷ ys) ++ back ≡ write y ++ (flat_map write ys ++ back) = append_assoc (write y) (flat_map write ys) back in
    let n : length front + w - length front ≡ w = omega arith in
    rw (at, n, grouped, drop_at front (write y ++ (flat_map write ys ++ back)) (length front) refl, take_at (write y) (flat_map write ys ++ back) w (wide y)) (ap write same)
entry_in write w wide (y ∷ ys) front back (suc i) x here =
    let rest = entry_in write w wide ys (front ++ write y) back i x here in
    let at : length (front ++ write y) + w * i ≡ length front + w * suc i = omega (arith, length-append front (write y), wide y) in
    let grouped : front ++ (flat_map write (y ∷ ys) ++ back) ≡ (front ++ write y) ++ (flat_map write ys ++ back) =
    ap (λ (r : List ℕ). front ++ r) (append_assoc (write y) (flat_map write ys) back) ∙ sym (append_assoc front (write y) (flat_map write ys ++ back)) in
    rw (grouped, ← at) rest

-- how long entries of one width are together
pub length-entries : {X : Type 0} (write : X → List ℕ) (w : ℕ) → ((x : X) → length (write x) ≡ w) → (xs : List X) → length (flat_map write xs) ≡ w * length xs
length-entries write w wide [] = omega arith
length-entries write w wide (x ∷ xs) = omega (arith, length-append (write x) (flat_map write xs), wide x, length-entries write w wide xs)

-- ---- lists that rise

-- each element begins where the former one ends, or above it; the first one at `low` or above it
abbrev pub Rises : {X : Type 0} → (X → ℕ) → (X → ℕ) → ℕ → List X → Type 0
Rises begin finish low [] = Unit {0}
Rises begin finish low (x ∷ xs) = (low ≤ begin x) × Rises begin finish (finish x) xs

-- where an element may begin behind these
abbrev pub free_from : {X : Type 0} → (X → ℕ) → ℕ → List X → ℕ
free_from finish low [] = low
free_from finish low (x ∷ xs) = free_from finish (finish x) xs

-- behind one more element
free_from-more : {X : Type 0} (finish : X → ℕ) (low : ℕ) (xs : List X) (x : X) → free_from finish low (xs ++ x ∷ []) ≡ finish x
free_from-more finish low [] x = refl
free_from-more finish low (y ∷ ys) x = free_from-more finish (finish y) ys x

-- one more element that begins where it may
rises_more : {X : Type 0} (begin finish : X → ℕ) (low : ℕ) (xs : List X) (x : X) → Rises begin finish low xs → free_from finish low xs ≤ begin x
    → Rises begin finish low (xs ++ x ∷ [])
rises_more begin finish low [] x rise here = (here, tt)
rises_more begin finish low (y ∷ ys) x rise here = (rise.0, rises_more begin finish (finish y) ys x rise.1 here)

-- where the element i of a list that a function numbers may begin
abbrev pub free_at : {X : Type 0} → (X → ℕ) → ℕ → (ℕ → X) → ℕ → ℕ
free_at finish low f zero = low
free_at finish low f (suc i) = finish (f i)

-- the two bounds are the same
free_from-list_of : {X : Type 0} (finish : X → ℕ) (low : ℕ) (f : ℕ → X) (n : ℕ) → free_from finish low (list_of f n) ≡ free_at finish low f n
free_from-list_of finish low f zero = refl
free_from-list_of finish low f (suc n) = ap (free_from finish low) (list_of_more f n) ∙ free_from-more finish low (list_of f n) (f n)

-- a list rises whose elements each begin where they may
pub rises_list : {X : Type 0} (begin finish : X → ℕ) (low : ℕ) (f : ℕ → X) (n : ℕ) → ((i : ℕ) → i < n → free_at finish low f i ≤ begin (f i))
    → Rises begin finish low (list_of f n)
rises_list begin finish low f zero each = tt
rises_list begin finish low f (suc n) each =
    let here : free_from finish low (list_of f n) ≤ begin (f n) = rw (free_from-list_of finish low f n) (each n (omega arith)) in
    subst (Rises begin finish low) (sym (list_of_more f n)) (rises_more begin finish low (list_of f n) (f n) (rises_list begin finish low f n (λ i lt. each i (omega arith))) here)

-- the first element of a list that rises, and an element behind another
pub rises_first : {X : Type 0} (begin finish : X → ℕ) (low : ℕ) (xs : List X) (x : X) → Rises begin finish low xs → slice_get xs 0 ≡ Some x → low ≤ begin x
rises_first begin finish low [] x rise here = absurd cc
rises_first {X} begin finish low (y ∷ ys) x rise here = let same : y ≡ x = cc in subst (λ (z : X). low ≤ begin z) same rise.0

-- an element ends where the next one begins, or before
pub rises_next : {X : Type 0} (begin finish : X → ℕ) (low : ℕ) (xs : List X) (i : ℕ) (x y : X) → Rises begin finish low xs → slice_get xs i ≡ Some x
    → slice_get xs (suc i) ≡ Some y → finish x ≤ begin y
rises_next begin finish low [] i x y rise here next = absurd cc
rises_next {X} begin finish low (z ∷ zs) zero x y rise here next =
    let same : z ≡ x = cc in
    subst (λ (u : X). finish u ≤ begin y) same (rises_first begin finish (finish z) zs y rise.1 next)
rises_next begin finish low (z ∷ zs) (suc i) x y rise here next = rises_next begin finish (finish z) zs i x y rise.1 here next

-- every element of a list that rises begins at its low bound or above
pub rises_above : {X : Type 0} (begin finish : X → ℕ) → ((x : X) → begin x ≤ finish x) → (low : ℕ) (xs : List X) (i : ℕ) (x : X)
    → Rises begin finish low xs → slice_get xs i ≡ Some x → low ≤ begin x
rises_above begin finish up low [] i x rise here = absurd cc
rises_above begin finish up low (y ∷ ys) zero x rise here = rises_first begin finish low (y ∷ ys) x rise here
rises_above begin finish up low (y ∷ ys) (suc i) x rise here =
    let above = rises_above begin finish up (finish y) ys i x rise.1 here in
    omega (arith, rise.0, up y, above)

-- ---- zeros

-- a byte is 0
abbrev pub is_zero : ℕ → Bool
is_zero x = eqb x 0

-- bytes that are all zeros
pub all_zeros : (xs : List ℕ) → list_all is_zero xs ≡ true → xs ≡ replicate (length xs) 0
all_zeros [] e = refl
all_zeros (x ∷ xs) e =
    let both = and_parts (is_zero x) (list_all is_zero xs) e in
    let here = eqb-true x 0 both.0 in
    let rest = all_zeros xs both.1 in
    ap (λ y. y ∷ xs) here ∙ ap (λ (ys : List ℕ). 0 ∷ ys) rest
