-- Slots of a release, found one after another.
use Rattle.std.proofs.Common.{◌≡◌, ℕ, zero, suc, ◌+◌, ◌<◌, ◌≤◌, Bool, true, false, cond, eqb, Option, Some, None, List, [], ◌∷◌, ◌++◌, length, take, map, refl, sym, ap, ap₂, subst, ◌∙◌, arith}
use Rattle.std.specs.Prelude.{slice_get, not, ◌||◌, IsTrue, ◌↔◌, unwrap_or, find}
use Rattle.std.specs.List.{range_with_len, zip}
use Rattle.std.proofs.lemmas.Bool.{false≢true}
use Rattle.std.proofs.lemmas.List.Folds.{list_any-append}
use Rattle.component_package.specs.declared.manifest.Entry.{Entry}
use Rattle.component_package.specs.declared.manifest.SlotManifest.{SlotManifest}
use Rattle.component_package.specs.packages.Manifest.{Placed, StoredRelease}
use Rattle.component_package.specs.mote.Store.{is_same, held_slot, is_taken, least_free, place_entry, placed_from}
use Rattle.component_package.proofs.StoredLemmas.{the_placed}
use Rattle.component_store.specs.Slots.{used_slots}
use Rattle.mote_laws.proofs.Sets.{same_lists_are, is_same_itself}

-- a test of two lists that answers rightly answers what the definition does
pub decides : (r : Bool) (xs ys : List ℕ) → IsTrue r ↔ (xs ≡ ys) → r ≡ is_same xs ys
decides true xs ys test = sym (subst (λ (l : List ℕ). is_same xs l ≡ true) (test.0 refl) (is_same_itself xs))
decides false xs ys test = go (is_same xs ys) refl
  where
    go : (b : Bool) → is_same xs ys ≡ b → false ≡ b
    go false is = refl
    go true is = absurd (false≢true (test.1 (same_lists_are xs ys is)))

-- ---- the first that passes

-- none among the first passes, and this one does
pub find_at : {X : Type 0} (p : X → Bool) (xs : List X) (i : ℕ) (x : X) → find p (take i xs) ≡ None → slice_get xs i ≡ Some x → p x ≡ true → find p xs ≡ Some x
find_at p [] i x none here yes_x = absurd cc
find_at {X} p (y ∷ ys) zero x none here yes_x =
    let same : y ≡ x = cc in
    subst (λ (z : X). cond (p z) (Some z) (find p ys) ≡ Some x) (sym same) (rw yes_x refl)
find_at {X} p (y ∷ ys) (suc i) x none here yes_x = go (λ later. find_at p ys i x later here yes_x) (p y) refl
  where
    go : (find p (take i ys) ≡ None → find p ys ≡ Some x) → (b : Bool) → p y ≡ b → find p (y ∷ ys) ≡ Some x
    go rest true is = let bad : cond (p y) (Some y) (find p (take i ys)) ≡ None = none in let worse : Some y ≡ None = sym (ap (λ (b : Bool). cond b (Some y) (find p (take i ys))) is) ∙ bad in absurd cc
    go rest false is = ap (λ (b : Bool). cond b (Some y) (find p ys)) is ∙ rest (sym (ap (λ (b : Bool). cond b (Some y) (find p (take i ys))) is) ∙ none)

-- nor does this one
pub find_more : {X : Type 0} (p : X → Bool) (xs : List X) (i : ℕ) (x : X) → find p (take i xs) ≡ None → slice_get xs i ≡ Some x → p x ≡ false → find p (take (suc i) xs) ≡ None
find_more p [] i x none here no_x = absurd cc
find_more {X} p (y ∷ ys) zero x none here no_x =
    let same : y ≡ x = cc in
    subst (λ (z : X). cond (p z) (Some z) None ≡ None) (sym same) (rw no_x refl)
find_more {X} p (y ∷ ys) (suc i) x none here no_x = go (λ later. find_more p ys i x later here no_x) (p y) refl
  where
    go : (find p (take i ys) ≡ None → find p (take (suc i) ys) ≡ None) → (b : Bool) → p y ≡ b → find p (take (suc (suc i)) (y ∷ ys)) ≡ None
    go rest true is = let bad : cond (p y) (Some y) (find p (take i ys)) ≡ None = none in let worse : Some y ≡ None = sym (ap (λ (b : Bool). cond b (Some y) (find p (take i ys))) is) ∙ bad in absurd cc
    go rest false is = ap (λ (b : Bool). cond b (Some y) (find p (take (suc i) ys))) is ∙ rest (sym (ap (λ (b : Bool). cond b (Some y) (find p (take i ys))) is) ∙ none)

-- the same tests find the same
find_same : {X : Type 0} (p q : X → Bool) (xs : List X) → ((x : X) → p x ≡ q x) → find p xs ≡ find q xs
find_same p q [] same = refl
find_same p q (x ∷ xs) same = ap₂ (λ (b : Bool) o. cond b (Some x) o) (same x) (find_same p q xs same)

-- the first number that passes
find_first : (p : ℕ → Bool) (a n s : ℕ) → ((k : ℕ) → k < s → p (a + k) ≡ false) → p (a + s) ≡ true → s < n → find p (range_with_len a n) ≡ Some (a + s)
find_first p a zero s before here lt = absurd (omega arith)
find_first p a (suc n) zero before here lt =
    let at : a + 0 ≡ a = omega arith in
    let yes_a : p a ≡ true = subst (λ (k : ℕ). p k ≡ true) at here in
    rw (yes_a, at) refl
find_first p a (suc n) (suc s) before here lt =
    let at : a + 0 ≡ a = omega arith in
    let no_a : p a ≡ false = subst (λ (k : ℕ). p k ≡ false) at (before 0 (omega arith)) in
    let next : (a + 1) + s ≡ a + suc s = omega arith in
    let rest = find_first p (a + 1) n s (λ k lt. let e : (a + 1) + k ≡ a + suc k = omega arith in rw e (before (suc k) (omega arith))) (rw next here) (omega arith) in
    rw no_a (rest ∙ ap (λ (k : ℕ). Some k) next)

find_none : (p : ℕ → Bool) (a n : ℕ) → ((k : ℕ) → k < n → p (a + k) ≡ false) → find p (range_with_len a n) ≡ None
find_none p a zero none = refl
find_none p a (suc n) none =
    let at : a + 0 ≡ a = omega arith in
    let no_a : p a ≡ false = subst (λ (k : ℕ). p k ≡ false) at (none 0 (omega arith)) in
    rw no_a (find_none p (a + 1) n (λ k lt. let e : (a + 1) + k ≡ a + suc k = omega arith in rw e (none (suc k) (omega arith))))

-- ---- the least slot

-- a slot below which all are taken, and that isn't
pub free_at : (taken : List ℕ) (s : ℕ) → ((k : ℕ) → k < s → is_taken taken k ≡ true) → is_taken taken s ≡ false → s < 32 → least_free taken ≡ s
free_at taken s before here lt =
    let zero_s : 0 + s ≡ s = omega arith in
    let found = find_first (λ k. not (is_taken taken k)) 0 32 s
    (λ k small. let e : 0 + k ≡ k = omega arith in ap (λ (j : ℕ). not (is_taken taken j)) e ∙ ap not (before k small))
    (ap (λ (j : ℕ). not (is_taken taken j)) zero_s ∙ ap not here) lt in
    ap (λ o. unwrap_or o 0) found ∙ zero_s

-- all are taken
pub none_free : (taken : List ℕ) → ((k : ℕ) → k < 32 → is_taken taken k ≡ true) → least_free taken ≡ 0
none_free taken all =
    ap (λ o. unwrap_or o 0) (find_none (λ k. not (is_taken taken k)) 0 32 (λ k small. let e : 0 + k ≡ k = omega arith in ap (λ (j : ℕ). not (is_taken taken j)) e ∙ ap not (all k small)))

-- the same slots are taken
least_free-same : (xs ys : List ℕ) → ((s : ℕ) → is_taken xs s ≡ is_taken ys s) → least_free xs ≡ least_free ys
least_free-same xs ys same = ap (λ o. unwrap_or o 0) (find_same (λ k. not (is_taken xs k)) (λ k. not (is_taken ys k)) (range_with_len 0 32) (λ k. ap not (same k)))

-- ---- the slots of a stored manifest

-- they are its first slots
pub used_are : (m : SlotManifest) → m.manifest.count ≤ length m.manifest.entries → m.manifest.count ≤ length m.slots → used_slots m ≡ take m.manifest.count m.slots
used_are m p q = go m.manifest.entries m.slots m.manifest.count p q
  where
    go : (es : List Entry) (ss : List ℕ) (n : ℕ) → n ≤ length es → n ≤ length ss → map (λ x. x.slot) (map (λ x. the_placed x) (zip (take n es) (take n ss))) ≡ take n ss
    go es ss zero p q = refl
    go [] ss (suc n) p q = absurd (omega arith)
    go (e ∷ es) [] (suc n) p q = absurd (omega arith)
    go (e ∷ es) (s ∷ ss) (suc n) p q = ap (λ (l : List ℕ). s ∷ l) (go es ss n (omega arith) (omega arith))

-- there are no more than the count says
pub pairs_at_most : (es : List Entry) (ss : List ℕ) (n : ℕ) → length (map (λ x. the_placed x) (zip (take n es) (take n ss))) ≤ n
pairs_at_most es ss zero = omega arith
pairs_at_most [] ss (suc n) = omega arith
pairs_at_most (e ∷ es) [] (suc n) = omega arith
pairs_at_most (e ∷ es) (s ∷ ss) (suc n) = omega (arith, pairs_at_most es ss n)

-- ---- entries one after another

-- what is taken behind these entries
abbrev pub taken_after : StoredRelease → List ℕ → List Entry → List ℕ
taken_after m taken [] = taken
taken_after m taken (e ∷ es) = taken_after m (place_entry (held_slot m e) taken ∷ taken) es

placed_push : (m : StoredRelease) (taken : List ℕ) (es : List Entry) (e : Entry)
    → placed_from m taken (es ++ e ∷ []) ≡ placed_from m taken es ++ record { entry = e; slot = place_entry (held_slot m e) (taken_after m taken es) } ∷ []
placed_push m taken [] e = refl
placed_push m taken (f ∷ es) e = ap (λ (l : List Placed). record { entry = f; slot = place_entry (held_slot m f) taken } ∷ l) (placed_push m (place_entry (held_slot m f) taken ∷ taken) es e)

or_moves : (a b c : Bool) → ((a || b) || c) ≡ (b || (a || c))
or_moves true true c = refl
or_moves true false c = refl
or_moves false true c = refl
or_moves false false c = refl

or_nothing : (a : Bool) → a ≡ (a || false)
or_nothing true = refl
or_nothing false = refl

taken_after_has : (m : StoredRelease) (taken : List ℕ) (es : List Entry) (s : ℕ) → is_taken (taken_after m taken es) s ≡ (is_taken taken s || is_taken (map (λ p. p.slot) (placed_from m taken es)) s)
taken_after_has m taken [] s = or_nothing (is_taken taken s)
taken_after_has m taken (e ∷ es) s =
    let t : ℕ = place_entry (held_slot m e) taken in
    taken_after_has m (t ∷ taken) es s ∙ or_moves (eqb t s) (is_taken taken s) (is_taken (map (λ p. p.slot) (placed_from m (t ∷ taken) es)) s)

place_is : (o : Option ℕ) (xs ys : List ℕ) → least_free xs ≡ least_free ys → place_entry o xs ≡ unwrap_or o (least_free ys)
place_is (Some s) xs ys same = refl
place_is None xs ys same = same

-- the slot of the next entry, behind those that were given theirs
pub next_slot : (m : StoredRelease) (taken given : List ℕ) (es : List Entry) (e : Entry) → given ≡ map (λ p. p.slot) (placed_from m taken es)
    → map (λ p. p.slot) (placed_from m taken (es ++ e ∷ [])) ≡ given ++ unwrap_or (held_slot m e) (least_free (taken ++ given)) ∷ []
next_slot m taken given es e is =
    let same : least_free (taken_after m taken es) ≡ least_free (taken ++ given) =
    least_free-same (taken_after m taken es) (taken ++ given) (λ s. taken_after_has m taken es s ∙ ap (λ (l : List ℕ). is_taken taken s || is_taken l s) (sym is) ∙ sym (list_any-append (λ t. eqb t s) taken given)) in
    let slot = place_is (held_slot m e) (taken_after m taken es) (taken ++ given) same in
    ap (map (λ (p : Placed). p.slot)) (placed_push m taken es e) ∙ pushed (placed_from m taken es) ∙ ap₂ (λ (l : List ℕ) (k : ℕ). l ++ k ∷ []) (sym is) slot
  where
    pushed : (ps : List Placed) → map (λ p. p.slot) (ps ++ record { entry = e; slot = place_entry (held_slot m e) (taken_after m taken es) } ∷ []) ≡ map (λ p. p.slot) ps ++ place_entry (held_slot m e) (taken_after m taken es) ∷ []
    pushed [] = refl
    pushed (p ∷ ps) = ap (λ (l : List ℕ). p.slot ∷ l) (pushed ps)

-- entries paired with the slots that they were given
pub pairs_again : (m : StoredRelease) (taken : List ℕ) (es : List Entry) → map (λ x. the_placed x) (zip es (map (λ p. p.slot) (placed_from m taken es))) ≡ placed_from m taken es
pairs_again m taken [] = refl
pairs_again m taken (e ∷ es) = ap (λ (l : List Placed). record { entry = e; slot = place_entry (held_slot m e) taken } ∷ l) (pairs_again m (place_entry (held_slot m e) taken ∷ taken) es)
