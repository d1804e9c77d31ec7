-- Lists of different texts, numbers without a gap, and what is found in a list with more behind it.
use Rattle.std.proofs.Common.{◌≡◌, ℕ, zero, suc, ◌+◌, ◌≤◌, ◌<◌, get_or, drop, not, Bool, true, false, cond, Option, Some, None, List, [], ◌∷◌, ◌++◌, length, map, refl, sym, ap, subst, ◌∙◌, arith, bytes_eq, is_some, append-nil}
use Rattle.std.specs.Prelude.{◌||◌}
use Rattle.std.specs.List.{filter, find, list_any, range_with_len, AllByRecursion, AllZip, zip}
use Rattle.std.specs.Option.{option_or, option_map, option_and_then}
use Rattle.std.specs.Cmp.Lexicographic.{bytes_decides}
use Rattle.std.proofs.lemmas.Bool.{or_parts, or_from, or_left, or_right, both_ways}
use Rattle.std.proofs.lemmas.List.{length-append, map-append, length-map}
use Rattle.std.proofs.lemmas.List.Elements.{filter-append}
use Rattle.std.proofs.lemmas.List.Folds.{list_any-append, find-append}
use Rattle.object_packer.specs.Names.{each_once}
use Rattle.release_rows.specs.Kept.{AreDifferent, AreNumberedFrom, all_of}

-- ---- texts

pub same_bytes : (a : List ℕ) → bytes_eq a a ≡ true
same_bytes a = (bytes_decides a a).1 refl

pub bytes_are : (a b : List ℕ) → bytes_eq a b ≡ true → a ≡ b
bytes_are a b e = (bytes_decides a b).0 e

pub turned : (a b : List ℕ) → bytes_eq a b ≡ bytes_eq b a
turned a b = from (bytes_eq a b) (bytes_eq b a) refl refl
  where
    from : (p q : Bool) → bytes_eq a b ≡ p → bytes_eq b a ≡ q → p ≡ q
    from true true e f = refl
    from false false e f = refl
    from true false e f = absurd (both_ways (bytes_eq b a) f ((bytes_decides b a).1 (sym ((bytes_decides a b).0 e))))
    from false true e f = absurd (both_ways (bytes_eq a b) e ((bytes_decides a b).1 (sym ((bytes_decides b a).0 f))))

-- ---- what is found

pub none_found : {X : Type 0} (p : X → Bool) (xs : List X) → find p xs ≡ None → list_any p xs ≡ false
none_found p [] e = refl
none_found {X} p (x ∷ xs) e = from (p x) e (none_found p xs)
  where
    from : (b : Bool) → cond b (Some x) (find p xs) ≡ None → (find p xs ≡ None → list_any p xs ≡ false) → (b || list_any p xs) ≡ false
    from true e rest = absurd cc
    from false e rest = rest e

-- what is found passes
pub found_passes : {X : Type 0} (p : X → Bool) (xs : List X) (y : X) → find p xs ≡ Some y → p y ≡ true
found_passes p [] y e = absurd cc
found_passes {X} p (x ∷ xs) y e = from (p x) refl e (found_passes p xs y)
  where
    from : (b : Bool) → p x ≡ b → cond b (Some x) (find p xs) ≡ Some y → (find p xs ≡ Some y → p y ≡ true) → p y ≡ true
    from true is e rest = let same : x ≡ y = cc in subst (λ (z : X). p z ≡ true) same is
    from false is e rest = rest e

-- and has what all have
pub found_all : {X : Type 0} (P : X → Type 0) (p : X → Bool) (xs : List X) (y : X) → AllByRecursion P xs → find p xs ≡ Some y → P y
found_all P p [] y all e = absurd cc
found_all {X} P p (x ∷ xs) y all e = from (p x) e (found_all P p xs y all.1)
  where
    from : (b : Bool) → cond b (Some x) (find p xs) ≡ Some y → (find p xs ≡ Some y → P y) → P y
    from true e rest = let same : x ≡ y = cc in subst P same all.0
    from false e rest = rest e

-- what is found by one test is there for another that it passes
pub found_too : {X : Type 0} (p q : X → Bool) (xs : List X) (y : X) → find p xs ≡ Some y → q y ≡ true → list_any q xs ≡ true
found_too p q [] y e is = absurd cc
found_too {X} p q (x ∷ xs) y e is = from (p x) e (λ f. found_too p q xs y f is)
  where
    from : (b : Bool) → cond b (Some x) (find p xs) ≡ Some y → (find p xs ≡ Some y → list_any q xs ≡ true) → (q x || list_any q xs) ≡ true
    from true e rest = let same : y ≡ x = cc in or_left (q x) (list_any q xs) (subst (λ (z : X). q z ≡ true) same is)
    from false e rest = or_right (q x) (list_any q xs) (rest e)

pub any_found : {X : Type 0} (p : X → Bool) (xs : List X) → list_any p xs ≡ true → is_some (find p xs) ≡ true
any_found p [] e = absurd cc
any_found {X} p (x ∷ xs) e = from (p x) e (any_found p xs)
  where
    from : (b : Bool) → (b || list_any p xs) ≡ true → (list_any p xs ≡ true → is_some (find p xs) ≡ true) → is_some (cond b (Some x) (find p xs)) ≡ true
    from true e rest = refl
    from false e rest = rest e

some_mapped : {X Y : Type 0} (f : X → Y) (o : Option X) → is_some (option_map f o) ≡ is_some o
some_mapped f None = refl
some_mapped f (Some x) = refl

pub some_from : {X Y : Type 0} (f : X → Y) (o : Option X) → is_some o ≡ true → is_some (option_map f o) ≡ true
some_from f o e = some_mapped f o ∙ e

pub some_back : {X Y : Type 0} (f : X → Y) (o : Option X) → is_some (option_map f o) ≡ true → is_some o ≡ true
some_back f o e = sym (some_mapped f o) ∙ e

-- the first row answers, whatever stands behind
pub found_still : {X Y : Type 0} (f : X → Y) (p : X → Bool) (xs ys : List X) (y : Y) → option_map f (find p xs) ≡ Some y → option_map f (find p (xs ++ ys)) ≡ Some y
found_still {X} {Y} f p xs ys y e = ap (option_map f) (find-append p xs ys) ∙ from (find p xs) e
  where
    from : (o : Option X) → option_map f o ≡ Some y → option_map f (option_or o (find p ys)) ≡ Some y
    from None e = absurd cc
    from (Some x) e = e

pub some_still : {X : Type 0} (p : X → Bool) (xs ys : List X) → is_some (find p xs) ≡ true → is_some (find p (xs ++ ys)) ≡ true
some_still {X} p xs ys e = ap (λ (o : Option X). is_some o) (find-append p xs ys) ∙ from (find p xs) e
  where
    from : (o : Option X) → is_some o ≡ true → is_some (option_or o (find p ys)) ≡ true
    from None e = absurd cc
    from (Some x) e = refl

pub any_still : {X : Type 0} (p : X → Bool) (xs ys : List X) → list_any p xs ≡ true → list_any p (xs ++ ys) ≡ true
any_still p xs ys e = list_any-append p xs ys ∙ or_left (list_any p xs) (list_any p ys) e

pub any_behind : {X : Type 0} (p : X → Bool) (xs ys : List X) → list_any p ys ≡ true → list_any p (xs ++ ys) ≡ true
any_behind p xs ys e = list_any-append p xs ys ∙ or_right (list_any p xs) (list_any p ys) e

pub any_mapped : {X Y : Type 0} (p : Y → Bool) (f : X → Y) (xs : List X) → list_any p (map f xs) ≡ list_any (λ x. p (f x)) xs
any_mapped p f [] = refl
any_mapped p f (x ∷ xs) = ap (λ b. p (f x) || b) (any_mapped p f xs)

-- ---- all of these, where each is there

pub all_still : {X Y : Type 0} (f g : X → Option Y) → ((x : X) (y : Y) → f x ≡ Some y → g x ≡ Some y) → (xs : List X) (ys : List Y) → all_of (map f xs) ≡ Some ys → all_of (map g xs) ≡ Some ys
all_still f g so [] ys e = e
all_still {X} {Y} f g so (x ∷ xs) ys e = from (f x) (all_of (map f xs)) refl refl e (λ zs are. all_still f g so xs zs are)
  where
    from : (o : Option Y) (rest : Option (List Y)) → f x ≡ o → all_of (map f xs) ≡ rest → option_and_then (λ a. option_map (λ as_. a ∷ as_) rest) o ≡ Some ys
        → ((zs : List Y) → all_of (map f xs) ≡ Some zs → all_of (map g xs) ≡ Some zs) → option_and_then (λ a. option_map (λ as_. a ∷ as_) (all_of (map g xs))) (g x) ≡ Some ys
    from None rest is are e later = absurd cc
    from (Some y) None is are e later = absurd cc
    from (Some y) (Some zs) is are e later =
        ap (λ (o : Option Y). option_and_then (λ a. option_map (λ as_. a ∷ as_) (all_of (map g xs))) o) (so x y is)
        ∙ ap (λ (rest : Option (List Y)). option_map (λ as_. y ∷ as_) rest) (later zs are) ∙ e

pub all_length : {X Y : Type 0} (f : X → Option Y) (xs : List X) (ys : List Y) → all_of (map f xs) ≡ Some ys → length ys ≡ length xs
all_length {X} {Y} f [] ys e = let same : [] ≡ ys = cc in ap (λ (zs : List Y). length zs) (sym same)
all_length {X} {Y} f (x ∷ xs) ys e = from (f x) (all_of (map f xs)) refl e (λ zs are. all_length f xs zs are)
  where
    from : (o : Option Y) (rest : Option (List Y)) → all_of (map f xs) ≡ rest → option_and_then (λ a. option_map (λ as_. a ∷ as_) rest) o ≡ Some ys
        → ((zs : List Y) → all_of (map f xs) ≡ Some zs → length zs ≡ length xs) → length ys ≡ length (x ∷ xs)
    from None rest are e later = absurd cc
    from (Some y) None are e later = absurd cc
    from (Some y) (Some zs) are e later =
        let same : y ∷ zs ≡ ys = cc in
        ap (λ (ws : List Y). length ws) (sym same) ∙ ap (λ n. suc n) (later zs are)

-- ---- different texts

-- none of these is among those
abbrev pub AreNew : List (List ℕ) → List (List ℕ) → Type 0
AreNew xs ys = AllByRecursion (λ y. list_any (bytes_eq y) xs ≡ false) ys

tail_new : (x : List ℕ) (xs ys : List (List ℕ)) → AreNew (x ∷ xs) ys → AreNew xs ys
tail_new x xs [] all = tt
tail_new x xs (y ∷ ys) all = ((or_parts (bytes_eq y x) (list_any (bytes_eq y) xs) all.0).1, tail_new x xs ys all.1)

head_new : (x : List ℕ) (xs ys : List (List ℕ)) → AreNew (x ∷ xs) ys → list_any (bytes_eq x) ys ≡ false
head_new x xs [] all = refl
head_new x xs (y ∷ ys) all = or_from (bytes_eq x y) (list_any (bytes_eq x) ys) (turned x y ∙ (or_parts (bytes_eq y x) (list_any (bytes_eq y) xs) all.0).0) (head_new x xs ys all.1)

-- different texts, and behind them different ones that are new
pub different_joined : (xs ys : List (List ℕ)) → AreDifferent xs → AreDifferent ys → AreNew xs ys → AreDifferent (xs ++ ys)
different_joined [] ys a b new = b
different_joined (x ∷ xs) ys a b new = (
  list_any-append (bytes_eq x) xs ys ∙ or_from (list_any (bytes_eq x) xs) (list_any (bytes_eq x) ys) a.0 (head_new x xs ys new),
  different_joined xs ys a.1 b (tail_new x xs ys new),
)

-- with one more
pub different_more : {X : Type 0} (f : X → List ℕ) (xs : List X) (x : X) → AreDifferent (map f xs) → list_any (λ y. bytes_eq (f x) (f y)) xs ≡ false → AreDifferent (map f (xs ++ x ∷ []))
different_more f xs x a new =
    subst AreDifferent (sym (map-append f xs (x ∷ []))) (different_joined (map f xs) (f x ∷ []) a (refl, tt) (any_mapped (bytes_eq (f x)) f xs ∙ new, tt))

-- ---- numbers without a gap

range_joined : (first n m : ℕ) → range_with_len first n ++ range_with_len (first + n) m ≡ range_with_len first (n + m)
range_joined first zero m = let a : first + 0 ≡ first = omega arith in let b : m ≡ 0 + m = omega arith in ap (λ k. range_with_len k m) a ∙ ap (λ k. range_with_len first k) b
range_joined first (suc n) m =
    let a : first + suc n ≡ first + 1 + n = omega arith in
    let b : suc (n + m) ≡ suc n + m = omega arith in
    ap (λ k. first ∷ (range_with_len (first + 1) n ++ range_with_len k m)) a ∙ ap (λ (ks : List ℕ). first ∷ ks) (range_joined (first + 1) n m) ∙ ap (λ k. range_with_len first k) b

pub numbered_joined : (first : ℕ) (xs ys : List ℕ) → AreNumberedFrom first xs → AreNumberedFrom (first + length xs) ys → AreNumberedFrom first (xs ++ ys)
numbered_joined first xs ys a b =
    ap (λ zs. zs ++ ys) a ∙ ap (λ zs. range_with_len first (length xs) ++ zs) b ∙ range_joined first (length xs) (length ys) ∙ ap (λ n. range_with_len first n) (sym (length-append xs ys))

-- with one more
pub numbered_more : {X : Type 0} (f : X → ℕ) (first : ℕ) (xs : List X) (x : X) → AreNumberedFrom first (map f xs) → f x ≡ first + length xs → AreNumberedFrom first (map f (xs ++ x ∷ []))
numbered_more {X} f first xs x a next =
    subst (AreNumberedFrom first) (sym (map-append f xs (x ∷ [])))
    (numbered_joined first (map f xs) (f x ∷ []) a (ap (λ n. n ∷ []) (next ∙ ap (λ n. first + n) (sym (length-map xs f)))))

-- with one more that may be of those that pass
pub numbered_if : {X : Type 0} (p : X → Bool) (f : X → ℕ) (first : ℕ) (xs : List X) (x : X) → AreNumberedFrom first (map f (filter p xs)) → (p x ≡ true → f x ≡ first + length (filter p xs))
    → AreNumberedFrom first (map f (filter p (xs ++ x ∷ [])))
numbered_if {X} p f first xs x a next = subst (λ (ys : List X). AreNumberedFrom first (map f ys)) (sym (filter-append p xs (x ∷ []))) (from (p x) refl)
  where
    from : (b : Bool) → p x ≡ b → AreNumberedFrom first (map f (filter p xs ++ cond b (x ∷ []) []))
    from true is = numbered_more f first (filter p xs) x a (next is)
    from false is = subst (λ (ys : List X). AreNumberedFrom first (map f ys)) (sym (append-nil (filter p xs))) a

pub few_if : {X : Type 0} (p : X → Bool) (limit : ℕ) (xs : List X) (x : X) → length (filter p xs) ≤ limit → (p x ≡ true → length (filter p xs) + 1 ≤ limit) → length (filter p (xs ++ x ∷ [])) ≤ limit
few_if {X} p limit xs x le next = subst (λ (ys : List X). length ys ≤ limit) (sym (filter-append p xs (x ∷ []))) (from (p x) refl)
  where
    from : (b : Bool) → p x ≡ b → length (filter p xs ++ cond b (x ∷ []) []) ≤ limit
    from true is = let long = length-append (filter p xs) (x ∷ []) in let room = next is in omega (arith, long, room)
    from false is = subst (λ (ys : List X). length ys ≤ limit) (sym (append-nil (filter p xs))) le

-- numbers without a gap are below where they end
first_is : (x y : ℕ) (xs ys : List ℕ) → x ∷ xs ≡ y ∷ ys → x ≡ y
first_is x y xs ys same = ap (λ (zs : List ℕ). get_or zs 0 x) same

rest_is : (x y : ℕ) (xs ys : List ℕ) → x ∷ xs ≡ y ∷ ys → xs ≡ ys
rest_is x y xs ys same = ap (λ (zs : List ℕ). drop 1 zs) same

pub numbers_below : {X : Type 0} (f : X → ℕ) (first limit : ℕ) (xs : List X) → AreNumberedFrom first (map f xs) → first + length xs ≤ limit → AllByRecursion (λ x. f x < limit) xs
numbers_below f first limit [] a le = tt
numbers_below {X} f first limit (x ∷ xs) a le =
    let here : f x ≡ first = first_is (f x) first (map f xs) (range_with_len (first + 1) (length (map f xs))) a in (
      omega (arith, here, le),
      numbers_below f (first + 1) limit xs (rest_is (f x) first (map f xs) (range_with_len (first + 1) (length (map f xs))) a) (omega (arith, le)),
    )

-- the row that gives what is found
pub row_of : {X Y : Type 0} (f : X → Y) (o : Option X) (y : Y) → option_map f o ≡ Some y → (x : X) × (o ≡ Some x) × (f x ≡ y)
row_of f None y e = absurd cc
row_of f (Some x) y e = let same : f x ≡ y = cc in (x, refl, same)

-- what each has, all have
pub all_each : {X : Type 0} (P : X → Type 0) (xs : List X) → ((x : X) → P x) → AllByRecursion P xs
all_each P [] each = tt
all_each P (x ∷ xs) each = (each x, all_each P xs each)

pub all_so : {X : Type 0} (P Q : X → Type 0) (xs : List X) → ((x : X) → P x → Q x) → AllByRecursion P xs → AllByRecursion Q xs
all_so P Q [] so all = tt
all_so P Q (x ∷ xs) so all = (so x all.0, all_so P Q xs so all.1)

-- of what follows from two
pub all_with : {X : Type 0} (P Q R : X → Type 0) (xs : List X) → ((x : X) → P x → Q x → R x) → AllByRecursion P xs → AllByRecursion Q xs → AllByRecursion R xs
all_with P Q R [] so all more = tt
all_with P Q R (x ∷ xs) so all more = (so x all.0 more.0, all_with P Q R xs so all.1 more.1)

pub all_mapped : {X Y : Type 0} (P : Y → Type 0) (f : X → Y) (xs : List X) → AllByRecursion (λ x. P (f x)) xs → AllByRecursion P (map f xs)
all_mapped P f [] all = tt
all_mapped P f (x ∷ xs) all = (all.0, all_mapped P f xs all.1)

-- ---- those of different texts that pass a test

any_kept : {X : Type 0} (q p : X → Bool) (xs : List X) → list_any q xs ≡ false → list_any q (filter p xs) ≡ false
any_kept q p [] e = refl
any_kept {X} q p (x ∷ xs) e = let parts = or_parts (q x) (list_any q xs) e in from (p x) parts.0 (any_kept q p xs parts.1)
  where
    from : (b : Bool) → q x ≡ false → list_any q (filter p xs) ≡ false → list_any q (cond b (x ∷ filter p xs) (filter p xs)) ≡ false
    from true here rest = or_from (q x) (list_any q (filter p xs)) here rest
    from false here rest = rest

pub different_kept : (p : List ℕ → Bool) (xs : List (List ℕ)) → AreDifferent xs → AreDifferent (filter p xs)
different_kept p [] d = tt
different_kept p (x ∷ xs) d = from (p x) (different_kept p xs d.1)
  where
    from : (b : Bool) → AreDifferent (filter p xs) → AreDifferent (cond b (x ∷ filter p xs) (filter p xs))
    from true rest = (any_kept (bytes_eq x) p xs d.0, rest)
    from false rest = rest

no_more : (n : List ℕ) (ns : List (List ℕ)) → list_any (bytes_eq n) (filter (λ m. not (bytes_eq m n)) ns) ≡ false
no_more n [] = refl
no_more n (m ∷ ns) = from (bytes_eq m n) refl (no_more n ns)
  where
    from : (b : Bool) → bytes_eq m n ≡ b → list_any (bytes_eq n) (filter (λ m. not (bytes_eq m n)) ns) ≡ false
        → list_any (bytes_eq n) (cond (not b) (m ∷ filter (λ m. not (bytes_eq m n)) ns) (filter (λ m. not (bytes_eq m n)) ns)) ≡ false
    from true is rest = rest
    from false is rest = or_from (bytes_eq n m) (list_any (bytes_eq n) (filter (λ m. not (bytes_eq m n)) ns)) (turned n m ∙ is) rest

pub once_different : (ns : List (List ℕ)) → AreDifferent (each_once ns)
once_different [] = tt
once_different (n ∷ ns) = (no_more n (each_once ns), different_kept (λ m. not (bytes_eq m n)) (each_once ns) (once_different ns))

-- ---- two lists, place by place

pub zip_so : {X Y : Type 0} (R S : X → Y → Type 0) → ((x : X) (y : Y) → R x y → S x y) → (xs : List X) (ys : List Y) → AllZip R xs ys → AllZip S xs ys
zip_so R S so [] [] all = tt
zip_so R S so [] (y ∷ ys) all = absurd all
zip_so R S so (x ∷ xs) [] all = absurd all
zip_so R S so (x ∷ xs) (y ∷ ys) all = (so x y all.0, zip_so R S so xs ys all.1)

pub zip_more : {X Y : Type 0} (R : X → Y → Type 0) (xs : List X) (ys : List Y) (x : X) (y : Y) → AllZip R xs ys → R x y → AllZip R (xs ++ x ∷ []) (ys ++ y ∷ [])
zip_more R [] [] x y all new = (new, tt)
zip_more R [] (b ∷ ys) x y all new = absurd all
zip_more R (a ∷ xs) [] x y all new = absurd all
zip_more R (a ∷ xs) (b ∷ ys) x y all new = (all.0, zip_more R xs ys x y all.1 new)

-- what stands beside the first that passes
pub beside : {X Y : Type 0} (R : X → Y → Type 0) (p : Y → Bool) (xs : List X) (ys : List Y) → AllZip R xs ys → (y : Y) → find p ys ≡ Some y
    → (x : X) × (find (λ (z : X × Y). p z.1) (zip xs ys) ≡ Some (x, y)) × R x y
beside R p [] [] all y e = absurd cc
beside R p [] (b ∷ ys) all y e = absurd all
beside R p (a ∷ xs) [] all y e = absurd all
beside {X} {Y} R p (a ∷ xs) (b ∷ ys) all y e = from (p b) e (λ f. beside R p xs ys all.1 y f)
  where
    from : (c : Bool) → cond c (Some b) (find p ys) ≡ Some y → (find p ys ≡ Some y → (x : X) × (find (λ (z : X × Y). p z.1) (zip xs ys) ≡ Some (x, y)) × R x y)
        → (x : X) × (cond c (Some (a, b)) (find (λ (z : X × Y). p z.1) (zip xs ys)) ≡ Some (x, y)) × R x y
    from true e later = let same : b ≡ y = cc in (a, ap (λ (z : Y). Some (a, z)) same, subst (λ (z : Y). R a z) same all.0)
    from false e later = later e

-- ---- rows of one number are one row

pub numbers_from : {X : Type 0} (f : X → ℕ) (first : ℕ) (xs : List X) → AreNumberedFrom first (map f xs) → AllByRecursion (λ x. first ≤ f x) xs
numbers_from f first [] a = tt
numbers_from {X} f first (x ∷ xs) a =
    let here : f x ≡ first = first_is (f x) first (map f xs) (range_with_len (first + 1) (length (map f xs))) a in
    let rest = rest_is (f x) first (map f xs) (range_with_len (first + 1) (length (map f xs))) a in
    (omega (arith, here), all_so (λ (x : X). first + 1 ≤ f x) (λ (x : X). first ≤ f x) xs (λ (x : X) le. omega (arith, le)) (numbers_from f (first + 1) xs rest))

pub same_row : {X : Type 0} (f : X → ℕ) (first : ℕ) (xs : List X) → AreNumberedFrom first (map f xs) → (p q : X → Bool) (x y : X) → find p xs ≡ Some x → find q xs ≡ Some y → f x ≡ f y → x ≡ y
same_row f first [] a p q x y e g same = absurd cc
same_row {X} f first (z ∷ xs) a p q x y e g same = from (p z) (q z) e g (λ e g. same_row f (first + 1) xs rest p q x y e g same)
  where
    here : f z ≡ first
    here = first_is (f z) first (map f xs) (range_with_len (first + 1) (length (map f xs))) a

    rest : AreNumberedFrom (first + 1) (map f xs)
    rest = rest_is (f z) first (map f xs) (range_with_len (first + 1) (length (map f xs))) a

    apart : (r : X → Bool) (w : X) → find r xs ≡ Some w → f z ≡ f w → ⊥
    apart r w there one = let le = found_all (λ (x : X). first + 1 ≤ f x) r xs w (numbers_from f (first + 1) xs rest) there in absurd (omega (arith, le, one, here))

    from : (b c : Bool) → cond b (Some z) (find p xs) ≡ Some x → cond c (Some z) (find q xs) ≡ Some y → (find p xs ≡ Some x → find q xs ≡ Some y → x ≡ y) → x ≡ y
    from true true e g later = let l : z ≡ x = cc in let r : z ≡ y = cc in sym l ∙ r
    from true false e g later = let l : z ≡ x = cc in absurd (apart q y g (ap f l ∙ same))
    from false true e g later = let r : z ≡ y = cc in absurd (apart p x e (ap f r ∙ sym same))
    from false false e g later = later e g

-- one that is among these has what all have
pub any_all : (P : List ℕ → Type 0) (name : List ℕ) (ns : List (List ℕ)) → list_any (λ n. bytes_eq n name) ns ≡ true → AllByRecursion P ns → P name
any_all P name [] e all = absurd cc
any_all P name (n ∷ ns) e all = from (bytes_eq n name) refl e (λ e. any_all P name ns e all.1)
  where
    from : (b : Bool) → bytes_eq n name ≡ b → (b || list_any (λ n. bytes_eq n name) ns) ≡ true → (list_any (λ n. bytes_eq n name) ns ≡ true → P name) → P name
    from true is e later = subst P (bytes_are n name is) all.0
    from false is e later = later e
