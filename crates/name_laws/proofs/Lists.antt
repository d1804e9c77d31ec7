-- Lists that are filtered, mapped, joined, sorted and numbered.
use Rattle.std.proofs.Common.{◌≡◌, ℕ, ◌+◌, Bool, true, false, cond, Option, Some, None, List, [], ◌∷◌, ◌++◌, map, refl, ap, ◌∙◌, inl, inr, leb}
use Rattle.std.specs.Prelude.{◌&&◌}
use Rattle.std.specs.Option.{option_or, option_map}
use Rattle.std.specs.List.{filter, find, flat_map, enumerate_from, AllByRecursion}
use Rattle.std.proofs.lemmas.Bool.{cases_Bool}
use Rattle.std.proofs.lemmas.List.{map-append}
use Rattle.std.proofs.lemmas.List.Elements.{filter-append}
use Rattle.object_packer.specs.Order.{insert_by, sorted_by}

-- ---- what is found

-- among mapped elements
pub find_map : {X Y : Type 0} (p : Y → Bool) (g : X → Y) (xs : List X) → find p (map g xs) ≡ option_map g (find (λ x. p (g x)) xs)
find_map p g [] = refl
find_map p g (x ∷ xs) = elim (cases_Bool (p (g x))) [ inl e ↦ rw e refl | inr e ↦ rw e (find_map p g xs) ]

-- by two tests, among those that pass the first
pub find_and : {X : Type 0} (p q : X → Bool) (xs : List X) → find (λ x. p x && q x) xs ≡ find q (filter p xs)
find_and p q [] = refl
find_and p q (x ∷ xs) =
    elim (cases_Bool (p x)) [
      | inl e ↦ elim (cases_Bool (q x)) [ inl f ↦ rw (e, f) refl | inr f ↦ rw (e, f) (find_and p q xs) ]
      | inr e ↦ rw e (find_and p q xs)
    ]

-- the first that passes
pub find_first : {X : Type 0} (p : X → Bool) (xs : List X) → find p xs ≡ find (λ x. true) (filter p xs)
find_first p [] = refl
find_first p (x ∷ xs) = elim (cases_Bool (p x)) [ inl e ↦ rw e refl | inr e ↦ rw e (find_first p xs) ]

-- by another test that comes out the same
pub find_same : {X : Type 0} (p q : X → Bool) (xs : List X) → AllByRecursion (λ x. p x ≡ q x) xs → find p xs ≡ find q xs
find_same p q [] all = refl
find_same p q (x ∷ xs) all = ap (λ b. cond b (Some x) (find p xs)) all.0 ∙ ap (λ o. cond (q x) (Some x) o) (find_same p q xs all.1)

-- ---- what passes a test

pub filter_map : {X Y : Type 0} (p : Y → Bool) (g : X → Y) (xs : List X) → filter p (map g xs) ≡ map g (filter (λ x. p (g x)) xs)
filter_map p g [] = refl
filter_map p g (x ∷ xs) = elim (cases_Bool (p (g x))) [ inl e ↦ rw e (ap (λ ys. g x ∷ ys) (filter_map p g xs)) | inr e ↦ rw e (filter_map p g xs) ]

pub filter_and : {X : Type 0} (p q : X → Bool) (xs : List X) → filter (λ x. p x && q x) xs ≡ filter q (filter p xs)
filter_and p q [] = refl
filter_and p q (x ∷ xs) =
    elim (cases_Bool (p x)) [
      | inl e ↦ elim (cases_Bool (q x)) [ inl f ↦ rw (e, f) (ap (λ ys. x ∷ ys) (filter_and p q xs)) | inr f ↦ rw (e, f) (filter_and p q xs) ]
      | inr e ↦ rw e (filter_and p q xs)
    ]

pub filter_alike : {X : Type 0} (p q : X → Bool) (xs : List X) → AllByRecursion (λ x. p x ≡ q x) xs → filter p xs ≡ filter q xs
filter_alike p q [] all = refl
filter_alike p q (x ∷ xs) all = ap (λ b. cond b (x ∷ filter p xs) (filter p xs)) all.0 ∙ ap (λ ys. cond (q x) (x ∷ ys) ys) (filter_alike p q xs all.1)

pub filter_flat : {X Y : Type 0} (p : Y → Bool) (f : X → List Y) (xs : List X) → filter p (flat_map f xs) ≡ flat_map (λ x. filter p (f x)) xs
filter_flat p f [] = refl
filter_flat p f (x ∷ xs) = filter-append p (f x) (flat_map f xs) ∙ ap (λ ys. filter p (f x) ++ ys) (filter_flat p f xs)

-- ---- mapped and joined lists

pub map_flat : {X Y Z : Type 0} (g : Y → Z) (f : X → List Y) (xs : List X) → map g (flat_map f xs) ≡ flat_map (λ x. map g (f x)) xs
map_flat g f [] = refl
map_flat g f (x ∷ xs) = map-append g (f x) (flat_map f xs) ∙ ap (λ ys. map g (f x) ++ ys) (map_flat g f xs)

pub map_same : {X Y : Type 0} (f g : X → Y) (xs : List X) → AllByRecursion (λ x. f x ≡ g x) xs → map f xs ≡ map g xs
map_same f g [] all = refl
map_same f g (x ∷ xs) all = ap (λ y. y ∷ map f xs) all.0 ∙ ap (λ ys. g x ∷ ys) (map_same f g xs all.1)

pub map_twice : {X Y Z : Type 0} (g : Y → Z) (f : X → Y) (xs : List X) → map g (map f xs) ≡ map (λ x. g (f x)) xs
map_twice g f [] = refl
map_twice g f (x ∷ xs) = ap (λ ys. g (f x) ∷ ys) (map_twice g f xs)

pub flat_same : {X Y : Type 0} (f g : X → List Y) (xs : List X) → AllByRecursion (λ x. f x ≡ g x) xs → flat_map f xs ≡ flat_map g xs
flat_same f g [] all = refl
flat_same f g (x ∷ xs) all = ap (λ ys. ys ++ flat_map f xs) all.0 ∙ ap (λ ys. g x ++ ys) (flat_same f g xs all.1)

-- ---- what holds of all

pub all_front : {X : Type 0} (P : X → Type 0) (xs ys : List X) → AllByRecursion P (xs ++ ys) → AllByRecursion P xs
all_front P [] ys all = tt
all_front P (x ∷ xs) ys all = (all.0, all_front P xs ys all.1)

pub all_back : {X : Type 0} (P : X → Type 0) (xs ys : List X) → AllByRecursion P (xs ++ ys) → AllByRecursion P ys
all_back P [] ys all = all
all_back P (x ∷ xs) ys all = all_back P xs ys all.1

pub all_joined : {X : Type 0} (P : X → Type 0) (xs ys : List X) → AllByRecursion P xs → AllByRecursion P ys → AllByRecursion P (xs ++ ys)
all_joined P [] ys a b = b
all_joined P (x ∷ xs) ys a b = (a.0, all_joined P xs ys a.1 b)

pub all_flat : {X Y : Type 0} (P : Y → Type 0) (f : X → List Y) (xs : List X) → AllByRecursion (λ x. AllByRecursion P (f x)) xs → AllByRecursion P (flat_map f xs)
all_flat P f [] all = tt
all_flat P f (x ∷ xs) all = all_joined P (f x) (flat_map f xs) all.0 (all_flat P f xs all.1)

pub flat_all : {X Y : Type 0} (P : Y → Type 0) (f : X → List Y) (xs : List X) → AllByRecursion P (flat_map f xs) → AllByRecursion (λ x. AllByRecursion P (f x)) xs
flat_all P f [] all = tt
flat_all P f (x ∷ xs) all = (all_front P (f x) (flat_map f xs) all, flat_all P f xs (all_back P (f x) (flat_map f xs) all))

-- of mapped elements
pub all_map : {X Y : Type 0} (P : Y → Type 0) (f : X → Y) (xs : List X) → AllByRecursion (λ x. P (f x)) xs → AllByRecursion P (map f xs)
all_map P f [] all = tt
all_map P f (x ∷ xs) all = (all.0, all_map P f xs all.1)

pub map_all : {X Y : Type 0} (P : Y → Type 0) (f : X → Y) (xs : List X) → AllByRecursion P (map f xs) → AllByRecursion (λ x. P (f x)) xs
map_all P f [] all = tt
map_all P f (x ∷ xs) all = (all.0, map_all P f xs all.1)

-- of what follows
pub all_so : {X : Type 0} (P Q : X → Type 0) (xs : List X) → ((x : X) → P x → Q x) → AllByRecursion P xs → AllByRecursion Q xs
all_so P Q [] so all = tt
all_so P Q (x ∷ xs) so all = (so x all.0, all_so P Q xs so all.1)

-- of what follows from two
pub all_with : {X : Type 0} (P Q R : X → Type 0) (xs : List X) → ((x : X) → P x → Q x → R x) → AllByRecursion P xs → AllByRecursion Q xs → AllByRecursion R xs
all_with P Q R [] so all more = tt
all_with P Q R (x ∷ xs) so all more = (so x all.0 more.0, all_with P Q R xs so all.1 more.1)

-- of all there is
pub all_of : {X : Type 0} (P : X → Type 0) (xs : List X) → ((x : X) → P x) → AllByRecursion P xs
all_of P [] each = tt
all_of P (x ∷ xs) each = (each x, all_of P xs each)

-- of a list before it was sorted
inserted : {X : Type 0} (key : X → ℕ) (P : X → Type 0) (x : X) (ys : List X) → AllByRecursion P (insert_by key x ys) → P x × AllByRecursion P ys
inserted key P x [] all = (all.0, tt)
inserted {X} key P x (y ∷ ys) all = from (leb (key x) (key y)) all (inserted key P x ys)
  where
    from : (b : Bool) → AllByRecursion P (cond b (x ∷ y ∷ ys) (y ∷ insert_by key x ys)) → (AllByRecursion P (insert_by key x ys) → P x × AllByRecursion P ys) → P x × AllByRecursion P (y ∷ ys)
    from true all rest = (all.0, all.1)
    from false all rest = ((rest all.1).0, (all.0, (rest all.1).1))

pub unsorted : {X : Type 0} (key : X → ℕ) (P : X → Type 0) (xs : List X) → AllByRecursion P (sorted_by key xs) → AllByRecursion P xs
unsorted key P [] all = tt
unsorted key P (x ∷ xs) all = let parts = inserted key P x (sorted_by key xs) all in (parts.0, unsorted key P xs parts.1)

-- of numbered elements
pub all_numbered : {X : Type 0} (P : X → Type 0) (n : ℕ) (xs : List X) → AllByRecursion P xs → AllByRecursion (λ (c : ℕ × X). P c.1) (enumerate_from n xs)
all_numbered P n [] all = tt
all_numbered P n (x ∷ xs) all = (all.0, all_numbered P (n + 1) xs all.1)

-- what is made of numbered elements without their numbers
pub map_numbered : {X Y : Type 0} (f : X → Y) (n : ℕ) (xs : List X) → map (λ (c : ℕ × X). f c.1) (enumerate_from n xs) ≡ map f xs
map_numbered f n [] = refl
map_numbered f n (x ∷ xs) = ap (λ ys. f x ∷ ys) (map_numbered f (n + 1) xs)

-- ---- choices

pub or_map : {X Y : Type 0} (g : X → Y) (a b : Option X) → option_or (option_map g a) (option_map g b) ≡ option_map g (option_or a b)
or_map g None b = refl
or_map g (Some x) b = refl

pub map_choice : {X Y Z : Type 0} (h : Y → Z) (g : X → Y) (f : X → Z) (a : Option X) → ((x : X) → h (g x) ≡ f x) → option_map h (option_map g a) ≡ option_map f a
map_choice h g f None same = refl
map_choice h g f (Some x) same = ap (λ z. Some z) (same x)
