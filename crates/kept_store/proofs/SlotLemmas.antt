-- Slots that are marked, and entries that are placed one after another.
use Rattle.std.proofs.Common.{◌≡◌, ◌≢◌, ℕ, zero, suc, ◌+◌, ◌<◌, ◌||◌, Bool, true, false, cond, eqb, Some, None, List, [], ◌∷◌, ◌++◌, length, take, get_or, set, refl, sym, ap, ap₂, subst, ◌∙◌, arith}
use Rattle.std.specs.Prelude.{not, unwrap_or, find}
use Rattle.std.specs.List.{range_with_len}
use Rattle.std.proofs.lemmas.Bool.{eqb-true, eqb-false}
use Rattle.std.proofs.lemmas.List.{append-nil, length-set, take_more, get_or-set_other, get_or-set_same}
use Rattle.std.proofs.lemmas.List.Folds.{list_any-append}
use Rattle.std.proofs.lemmas.Grind.{flat_map-append}
use Rattle.component_package.specs.declared.manifest.Entry.{Entry}
use Rattle.component_package.specs.packages.Reading.{list_of}
use Rattle.component_package.specs.mote.Store.{is_taken}
use Rattle.kept_definitions.specs.Stored.{Placed, StoredRelease}
use Rattle.kept_definitions.specs.Kept.{held_slot, slot_list, held_slots, least_free, place, placed_from}
use Rattle.kept_manifests.specs.Slots.{no_entry}
use Rattle.kept_manifests.proofs.Numbered.{the_placed, list_of_same, list_of_next}
use Rattle.kept_store.specs.Slots.{AreMarked}

-- ---- the least number that passes

find_first : (p : ℕ → Bool) (a n s : ℕ) → ((k : ℕ) → k < s → p (a + k) ≡ false) → p (a + s) ≡ true → s < n → find p (range_with_len a n) ≡ Some (a + s)
find_first p a zero s before here lt = absurd (omega arith)
find_first p a (suc n) zero before here lt =
    let at : a + 0 ≡ a = omega arith in
    let yes_a : p a ≡ true = subst (λ (k : ℕ). p k ≡ true) at here in
    rw (yes_a, at) refl
find_first p a (suc n) (suc s) before here lt =
    let at : a + 0 ≡ a = omega arith in
    let no_a : p a ≡ false = subst (λ (k : ℕ). p k ≡ false) at (before 0 (omega arith)) in
    let next : (a + 1) + s ≡ a + suc s = omega arith in
    let rest = find_first p (a + 1) n s (λ k lt. let e : (a + 1) + k ≡ a + suc k = omega arith in rw e (before (suc k) (omega arith))) (rw next here) (omega arith) in
    rw no_a (rest ∙ ap (λ (k : ℕ). Some k) next)

find_none : (p : ℕ → Bool) (a n : ℕ) → ((k : ℕ) → k < n → p (a + k) ≡ false) → find p (range_with_len a n) ≡ None
find_none p a zero none = refl
find_none p a (suc n) none =
    let at : a + 0 ≡ a = omega arith in
    let no_a : p a ≡ false = subst (λ (k : ℕ). p k ≡ false) at (none 0 (omega arith)) in
    rw no_a (find_none p (a + 1) n (λ k lt. let e : (a + 1) + k ≡ a + suc k = omega arith in rw e (none (suc k) (omega arith))))

-- a slot below which all are taken, and that isn't
pub free_at : (taken : List ℕ) (s : ℕ) → ((k : ℕ) → k < s → is_taken taken k ≡ true) → is_taken taken s ≡ false → s < 16 → least_free taken ≡ s
free_at taken s before here lt =
    let zero_s : 0 + s ≡ s = omega arith in
    let found = find_first (λ k. not (is_taken taken k)) 0 16 s
    (λ k small. let e : 0 + k ≡ k = omega arith in ap (λ (j : ℕ). not (is_taken taken j)) e ∙ ap not (before k small))
    (ap (λ (j : ℕ). not (is_taken taken j)) zero_s ∙ ap not here) lt in
    ap (λ o. unwrap_or o 0) found ∙ zero_s

-- all are taken
pub none_free : (taken : List ℕ) → ((k : ℕ) → k < 16 → is_taken taken k ≡ true) → least_free taken ≡ 0
none_free taken all =
    ap (λ o. unwrap_or o 0) (find_none (λ k. not (is_taken taken k)) 0 16 (λ k small. let e : 0 + k ≡ k = omega arith in ap (λ (j : ℕ). not (is_taken taken j)) e ∙ ap not (all k small)))

-- ---- marks

-- a mark that is set
mark_at : (marks : List Bool) (s t : ℕ) → s < length marks → get_or (set marks s true) t false ≡ (eqb s t || get_or marks t false)
mark_at marks s t lt = go (eqb s t) refl
  where
    go : (b : Bool) → eqb s t ≡ b → get_or (set marks s true) t false ≡ (b || get_or marks t false)
    go true is = let same : s ≡ t = eqb-true s t is in subst (λ (k : ℕ). get_or (set marks s true) k false ≡ true) same (rw get_or-set_same refl)
    go false is = let other : t ≢ s = λ same. eqb-false s t is (sym same) in rw get_or-set_other refl

or_turned : (a b : Bool) → (a || b) ≡ (b || (a || false))
or_turned true true = refl
or_turned true false = refl
or_turned false true = refl
or_turned false false = refl

-- a slot behind those that are marked
pub marked_behind : (marks : List Bool) (taken : List ℕ) (s : ℕ) → s < 16 → AreMarked marks taken → AreMarked (set marks s true) (taken ++ s ∷ [])
marked_behind marks taken s low marked = (
  length-set marks s true ∙ marked.0,
  λ t lt. mark_at marks s t (omega (arith, marked.0)) ∙ ap (λ (b : Bool). eqb s t || b) (marked.1 t lt) ∙ or_turned (eqb s t) (is_taken taken t) ∙ sym (list_any-append (λ u. eqb u t) taken (s ∷ [])),
)

-- and before them
pub marked_before : (marks : List Bool) (taken : List ℕ) (s : ℕ) → s < 16 → AreMarked marks taken → AreMarked (set marks s true) (s ∷ taken)
marked_before marks taken s low marked = (
  length-set marks s true ∙ marked.0,
  λ t lt. mark_at marks s t (omega (arith, marked.0)) ∙ ap (λ (b : Bool). eqb s t || b) (marked.1 t lt),
)

-- the held slots of one more entry
pub held_next : (m : StoredRelease) (es : List Entry) (i : ℕ) → i < length es → held_slots m (take i es) ++ slot_list (held_slot m (get_or es i no_entry)) ≡ held_slots m (take (i + 1) es)
held_next m es i lt =
    let e : Entry = get_or es i no_entry in
    ap (λ (l : List ℕ). held_slots m (take i es) ++ l) (sym (append-nil (slot_list (held_slot m e))))
    ∙ sym (flat_map-append (λ f. slot_list (held_slot m f)) (take i es) (e ∷ []))
    ∙ ap (held_slots m) (sym (take_more es i no_entry lt))

-- ---- entries one after another

-- what is taken behind an entry, and behind these
abbrev pub taken_next : Placed → List ℕ → List ℕ
taken_next p taken = cond p.fresh (p.slot ∷ taken) taken

abbrev pub taken_after : StoredRelease → List ℕ → List Entry → List ℕ
taken_after m taken [] = taken
taken_after m taken (e ∷ es) = taken_after m (taken_next (place m taken e) taken) es

pub placed_push : (m : StoredRelease) (taken : List ℕ) (es : List Entry) (e : Entry) → placed_from m taken (es ++ e ∷ []) ≡ placed_from m taken es ++ place m (taken_after m taken es) e ∷ []
placed_push m taken [] e = refl
placed_push m taken (f ∷ es) e = ap (λ (l : List Placed). place m taken f ∷ l) (placed_push m (taken_next (place m taken f) taken) es e)

pub taken_push : (m : StoredRelease) (taken : List ℕ) (es : List Entry) (e : Entry) → taken_after m taken (es ++ e ∷ []) ≡ taken_next (place m (taken_after m taken es) e) (taken_after m taken es)
taken_push m taken [] e = refl
taken_push m taken (f ∷ es) e = taken_push m (taken_next (place m taken f) taken) es e

-- places that lists of entries, slots and marks say
abbrev pub place_in : List Entry → List ℕ → List Bool → ℕ → Placed
place_in es ss fs k = the_placed (get_or es k no_entry) (get_or ss k 0) (get_or fs k false)

-- one more of them
pub places_more : (es : List Entry) (ss : List ℕ) (fs : List Bool) (i s : ℕ) (f : Bool) → i < length ss → i < length fs
    → list_of (place_in es (set ss i s) (set fs i f)) (i + 1) ≡ list_of (place_in es ss fs) i ++ the_placed (get_or es i no_entry) s f ∷ []
places_more es ss fs i s f short few =
    let here : place_in es (set ss i s) (set fs i f) i ≡ the_placed (get_or es i no_entry) s f =
    ap₂ (λ (x : ℕ) (y : Bool). the_placed (get_or es i no_entry) x y) (rw get_or-set_same refl) (rw get_or-set_same refl) in
    sym (list_of_next (place_in es (set ss i s) (set fs i f)) i)
    ∙ ap₂ (λ (l : List Placed) (p : Placed). l ++ p ∷ []) (list_of_same (place_in es (set ss i s) (set fs i f)) (place_in es ss fs) i (λ k lt. before k lt)) here
  where
    before : (k : ℕ) → k < i → place_in es (set ss i s) (set fs i f) k ≡ place_in es ss fs k
    before k lt = let other : k ≢ i = omega arith in ap₂ (λ (x : ℕ) (y : Bool). the_placed (get_or es k no_entry) x y) (rw get_or-set_other refl) (rw get_or-set_other refl)
