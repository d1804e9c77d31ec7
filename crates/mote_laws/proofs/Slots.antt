-- Slots for a new release: each entry finds one of its own.
use Rattle.std.proofs.Common.{◌≡◌, ◌⊎◌, inl, inr, ⊎_elim, ℕ, zero, suc, ◌+◌, ◌<◌, ◌≤◌, ◌||◌, Bool, true, false, not, cond, eqb, List, [], ◌∷◌, length, map, Option, Some, None, refl, sym, ap, ◌∙◌, subst, arith, slice_get}
use Rattle.std.specs.Prelude.{find, unwrap_or}
use Rattle.std.specs.List.{list_any, range_with_len, AllByRecursion}
use Rattle.std.specs.Option.{option_map}
use Rattle.std.proofs.lemmas.List.{length-map}
use Rattle.std.proofs.lemmas.Option.{same_Some}
use Rattle.std.proofs.lemmas.Bool.{eqb-true, eq-eqb, both_ways, or_parts, or_from, or_left, or_right, cases_Bool, ne_eqb, and_parts}
use Rattle.component_package.specs.declared.manifest.Entry.{Entry}
use Rattle.component_package.specs.packages.Manifest.{Release, Placed, StoredRelease, IsManifestEntry, IsRelease, IsStored, AreDistinct}
use Rattle.component_package.specs.mote.Store.{is_same_entry, held_slot, is_taken, least_free, place_entry, placed_from}
use Rattle.mote_laws.specs.Steps.{IsUnused}
use Rattle.mote_laws.specs.Slots.{SlotIsFree, SlotsAreFound}

-- ---- a slot is free

-- how many of the n numbers from a on are taken
abbrev pub taken_among : List ℕ → ℕ → ℕ → ℕ
taken_among taken a zero = 0
taken_among taken a (suc n) = cond (is_taken taken a) 1 0 + taken_among taken (a + 1) n

-- a number before all of them is none of them
none_past : (t a n : ℕ) → t < a → taken_among (t ∷ []) a n ≡ 0
none_past t a zero before = refl
none_past t a (suc n) before =
    let apart : eqb t a ≡ false = ne_eqb t a (λ same. omega arith) in
    let rest : taken_among (t ∷ []) (a + 1) n ≡ 0 = none_past t (a + 1) n (omega arith) in
    rw (apart, rest) refl

-- one number is taken once
one_at_most : (t a n : ℕ) → taken_among (t ∷ []) a n ≤ 1
one_at_most t a zero = omega arith
one_at_most t a (suc n) = ⊎_elim
    (λ same. let rest : taken_among (t ∷ []) (a + 1) n ≡ 0 = none_past t (a + 1) n (let e : t ≡ a = eqb-true t a same in omega arith) in rw (same, rest) (omega arith))
    (λ apart. rw apart (omega (arith, one_at_most t (a + 1) n)))
    (cases_Bool (eqb t a))

-- of two tests, each counts once
count_or : (x y : Bool) → cond (x || y) 1 0 ≤ cond (x || false) 1 0 + cond y 1 0
count_or true true = omega arith
count_or true false = omega arith
count_or false y = omega arith

-- one more is taken
more_taken : (t : ℕ) (taken : List ℕ) (a n : ℕ) → taken_among (t ∷ taken) a n ≤ taken_among (t ∷ []) a n + taken_among taken a n
more_taken t taken a zero = omega arith
more_taken t taken a (suc n) =
    let rest = more_taken t taken (a + 1) n in
    let here = count_or (eqb t a) (is_taken taken a) in
    omega arith

-- where nothing is taken
none_taken : (a n : ℕ) → taken_among [] a n ≡ 0
none_taken a zero = refl
none_taken a (suc n) = omega (arith, none_taken (a + 1) n)

-- no more of them are taken than are taken at all
pub taken_at_most : (taken : List ℕ) (a n : ℕ) → taken_among taken a n ≤ length taken
taken_at_most [] a n = omega (arith, none_taken a n)
taken_at_most (t ∷ taken) a n = omega (arith, more_taken t taken a n, one_at_most t a n, taken_at_most taken a n)

-- the first that isn't taken is one of them, or all are
pub first_free : (taken : List ℕ) (a n : ℕ) → ((s : ℕ) × (find (λ x. not (is_taken taken x)) (range_with_len a n) ≡ Some s) × (s < a + n) × (is_taken taken s ≡ false)) ⊎ (taken_among taken a n ≡ n)
first_free taken a zero = inr refl
first_free taken a (suc n) = at (is_taken taken a) refl (first_free taken (a + 1) n)
  where
    at : (b : Bool) → is_taken taken a ≡ b
        → ((s : ℕ) × (find (λ x. not (is_taken taken x)) (range_with_len (a + 1) n) ≡ Some s) × (s < (a + 1) + n) × (is_taken taken s ≡ false)) ⊎ (taken_among taken (a + 1) n ≡ n)
        → ((s : ℕ) × (find (λ x. not (is_taken taken x)) (range_with_len a (suc n)) ≡ Some s) × (s < a + suc n) × (is_taken taken s ≡ false)) ⊎ (taken_among taken a (suc n) ≡ suc n)
    at false is rest = inl (a, (rw is refl), (omega arith), is)
    at true is (inl found) = inl (found.0, (rw is found.1), (let h : found.0 < (a + 1) + n = found.2 in omega arith), found.3)
    at true is (inr all) = inr (rw (is, all) (omega arith))

pub slot_is_free : SlotIsFree
slot_is_free taken few = ⊎_elim
    (λ found. let is : least_free taken ≡ found.0 = ap (λ (o : Option ℕ). unwrap_or o 0) found.1 in (rw is found.2, rw is found.3))
    (λ all. absurd (omega (arith, taken_at_most taken 0 32)))
    (first_free taken 0 32)

-- ---- what the current release holds

-- the slot of the first of these that is the entry's
abbrev held_in : List Placed → Entry → Option ℕ
held_in ps e = option_map (λ p. p.slot) (find (λ p. is_same_entry p.entry e) ps)

-- equal entries are of one component
pub same_component : (e f : Entry) → is_same_entry e f ≡ true → e.component ≡ f.component
same_component e f same = eqb-true e.component f.component (and_parts _ _ (and_parts _ _ (and_parts _ _ same).0).0).0

-- a held entry's slot is one of the release's
pub held_taken : (ps : List Placed) (e : Entry) (s : ℕ) → held_in ps e ≡ Some s → is_taken (map (λ p. p.slot) ps) s ≡ true
held_taken [] e s held = cc
held_taken (p ∷ ps) e s held = at (is_same_entry p.entry e) held (held_taken ps e s)
  where
    at : (b : Bool) → option_map (λ p. p.slot) (cond b (Some p) (find (λ p. is_same_entry p.entry e) ps)) ≡ Some s → (held_in ps e ≡ Some s → is_taken (map (λ p. p.slot) ps) s ≡ true)
        → (eqb p.slot s || is_taken (map (λ p. p.slot) ps) s) ≡ true
    at true here rest = or_left (eqb p.slot s) _ (eq-eqb p.slot s (let e : p.slot ≡ s = cc in e))
    at false later rest = or_right (eqb p.slot s) _ (rest later)

-- and below 32
held_small : (ps : List Placed) (e : Entry) (s : ℕ) → AllByRecursion (λ p. p.slot < 32) ps → held_in ps e ≡ Some s → s < 32
held_small [] e s small held = absurd cc
held_small (p ∷ ps) e s small held = at (is_same_entry p.entry e) held (held_small ps e s small.1)
  where
    at : (b : Bool) → option_map (λ p. p.slot) (cond b (Some p) (find (λ p. is_same_entry p.entry e) ps)) ≡ Some s → (held_in ps e ≡ Some s → s < 32) → s < 32
    at true here rest = let e : p.slot ≡ s = cc in let low : p.slot < 32 = small.0 in omega arith
    at false later rest = rest later

-- two entries that one slot holds are of one component
held_once : (ps : List Placed) (e f : Entry) (s : ℕ) → AreDistinct (map (λ p. p.slot) ps) → held_in ps e ≡ Some s → held_in ps f ≡ Some s → e.component ≡ f.component
held_once [] e f s apart held_e held_f = absurd cc
held_once (p ∷ ps) e f s apart held_e held_f = at (is_same_entry p.entry e) (is_same_entry p.entry f) refl refl held_e held_f (held_once ps e f s apart.1)
  where
    only : (g : Entry) → p.slot ≡ s → held_in ps g ≡ Some s → ⊥
    only g is held = both_ways (is_taken (map (λ p. p.slot) ps) s) (subst (λ n. is_taken (map (λ p. p.slot) ps) n ≡ false) is apart.0) (held_taken ps g s held)

    at : (b c : Bool) → is_same_entry p.entry e ≡ b → is_same_entry p.entry f ≡ c → option_map (λ p. p.slot) (cond b (Some p) (find (λ p. is_same_entry p.entry e) ps)) ≡ Some s
        → option_map (λ p. p.slot) (cond c (Some p) (find (λ p. is_same_entry p.entry f) ps)) ≡ Some s → (held_in ps e ≡ Some s → held_in ps f ≡ Some s → e.component ≡ f.component) → e.component ≡ f.component
    at true true is_e is_f here_e here_f rest = sym (same_component p.entry e is_e) ∙ same_component p.entry f is_f
    at true false is_e is_f here_e later_f rest = absurd (only f (let i : p.slot ≡ s = cc in i) later_f)
    at false true is_e is_f later_e here_f rest = absurd (only e (let i : p.slot ≡ s = cc in i) later_e)
    at false false is_e is_f later_e later_f rest = rest later_e later_f

-- ---- the entries one after another

-- what the entries from here on are placed over: a stored release, taken slots that are its own and others, and room
record Room (m : StoredRelease) (taken : List ℕ) (es : List Entry) : Type 0 where
  -- the slots of its own are apart
  apart : AreDistinct (map (λ p. p.slot) m.placed)
  -- and below 32
  small : AllByRecursion (λ p. p.slot < 32) m.placed
  -- they are taken
  own : (s : ℕ) → is_taken (map (λ p. p.slot) m.placed) s ≡ true → is_taken taken s ≡ true
  -- there is room for the entries
  room : length taken + length es ≤ 32

-- one entry further on
room_left : (m : StoredRelease) (taken : List ℕ) (e : Entry) (es : List Entry) (s : ℕ) → Room m taken (e ∷ es) → Room m (s ∷ taken) es
room_left m taken e es s room = record {
  apart = room.apart;
  small = room.small;
  own = λ t own. or_right (eqb s t) (is_taken taken t) (room.own t own);
  room = (let h : length taken + length (e ∷ es) ≤ 32 = room.room in omega arith);
}

-- a slot is free for this entry
free_here : (m : StoredRelease) (taken : List ℕ) (e : Entry) (es : List Entry) → Room m taken (e ∷ es) → (least_free taken < 32) × (is_taken taken (least_free taken) ≡ false)
free_here m taken e es room = slot_is_free taken (let h : length taken + length (e ∷ es) ≤ 32 = room.room in omega arith)

-- an entry's slot below 32
place_small : (m : StoredRelease) (taken : List ℕ) (e : Entry) (es : List Entry) → Room m taken (e ∷ es) → (o : Option ℕ) → held_slot m e ≡ o → place_entry o taken < 32
place_small m taken e es room (Some s) is = held_small m.placed e s room.small is
place_small m taken e es room None is = (free_here m taken e es room).0

-- a slot that was given is given to no later entry
later_apart : (m : StoredRelease) (e : Entry) (s : ℕ) (taken : List ℕ) (es : List Entry) → Room m taken es → is_taken taken s ≡ true → list_any (λ y. eqb y e.component) (map (λ f. f.component) es) ≡ false
    → (held_slot m e ≡ Some s) ⊎ IsUnused m s → list_any (λ y. eqb y s) (map (λ p. p.slot) (placed_from m taken es)) ≡ false
later_apart m e s taken [] room given others kind = refl
later_apart m e s taken (f ∷ es) room given others kind =
    or_from _ _ (head (held_slot m f) refl)
    (later_apart m e s (place_entry (held_slot m f) taken ∷ taken) es (room_left m taken f es _ room) (or_right (eqb (place_entry (held_slot m f) taken) s) (is_taken taken s) given) (or_parts _ _ others).1 kind)
  where
    head : (o : Option ℕ) → held_slot m f ≡ o → eqb (place_entry o taken) s ≡ false
    head None is = ne_eqb (least_free taken) s (λ same. both_ways (is_taken taken s) (subst (λ n. is_taken taken n ≡ false) same (free_here m taken f es room).1) given)
    head (Some t) is = ne_eqb t s (λ same. ⊎_elim
        (λ held. both_ways (eqb f.component e.component) (or_parts _ _ others).0 (eq-eqb f.component e.component (held_once m.placed f e s room.apart (is ∙ ap Some same) held)))
        (λ unused. both_ways (is_taken (map (λ p. p.slot) m.placed) s) unused (held_taken m.placed f s (is ∙ ap Some same)))
        kind)

-- the slots of the entries, no two the same
placed_apart : (m : StoredRelease) (taken : List ℕ) (es : List Entry) → Room m taken es → AreDistinct (map (λ f. f.component) es) → AreDistinct (map (λ p. p.slot) (placed_from m taken es))
placed_apart m taken [] room others = tt
placed_apart m taken (e ∷ es) room others = (
  later_apart m e (place_entry (held_slot m e) taken) (place_entry (held_slot m e) taken ∷ taken) es (room_left m taken e es _ room)
      (or_left (eqb (place_entry (held_slot m e) taken) (place_entry (held_slot m e) taken)) _ (eq-eqb (place_entry (held_slot m e) taken) (place_entry (held_slot m e) taken) refl)) others.0 (kind (held_slot m e) refl),
  placed_apart m (place_entry (held_slot m e) taken ∷ taken) es (room_left m taken e es _ room) others.1,
)
  where
    unused : (s : ℕ) → is_taken taken s ≡ false → (b : Bool) → is_taken (map (λ p. p.slot) m.placed) s ≡ b → b ≡ false
    unused s free true is = absurd (both_ways (is_taken taken s) free (room.own s is))
    unused s free false is = refl

    kind : (o : Option ℕ) → held_slot m e ≡ o → (held_slot m e ≡ Some (place_entry o taken)) ⊎ IsUnused m (place_entry o taken)
    kind (Some s) is = inl is
    kind None is = inr (unused (least_free taken) (free_here m taken e es room).1 (is_taken (map (λ p. p.slot) m.placed) (least_free taken)) refl)

-- the entries, how many, and their components
placed_entries : (m : StoredRelease) (taken : List ℕ) (es : List Entry) → map (λ p. p.entry) (placed_from m taken es) ≡ es
placed_entries m taken [] = refl
placed_entries m taken (e ∷ es) = ap (λ (fs : List Entry). e ∷ fs) (placed_entries m (place_entry (held_slot m e) taken ∷ taken) es)

-- as many as there were
placed_count : (m : StoredRelease) (taken : List ℕ) (es : List Entry) → length (placed_from m taken es) ≡ length es
placed_count m taken [] = refl
placed_count m taken (e ∷ es) = ap suc (placed_count m (place_entry (held_slot m e) taken ∷ taken) es)

-- of the same components
placed_components : (m : StoredRelease) (taken : List ℕ) (es : List Entry) → map (λ p. p.entry.component) (placed_from m taken es) ≡ map (λ e. e.component) es
placed_components m taken [] = refl
placed_components m taken (e ∷ es) = ap (λ (fs : List ℕ). e.component ∷ fs) (placed_components m (place_entry (held_slot m e) taken ∷ taken) es)

-- each is an entry of the grammar
placed_good : (m : StoredRelease) (taken : List ℕ) (es : List Entry) → AllByRecursion IsManifestEntry es → AllByRecursion (λ p. IsManifestEntry p.entry) (placed_from m taken es)
placed_good m taken [] good = tt
placed_good m taken (e ∷ es) good = (good.0, placed_good m (place_entry (held_slot m e) taken ∷ taken) es good.1)

-- each slot is below 32
placed_low : (m : StoredRelease) (taken : List ℕ) (es : List Entry) → Room m taken es → AllByRecursion (λ p. p.slot < 32) (placed_from m taken es)
placed_low m taken [] room = tt
placed_low m taken (e ∷ es) room = (place_small m taken e es room (held_slot m e) refl, placed_low m (place_entry (held_slot m e) taken ∷ taken) es (room_left m taken e es _ room))

-- there is room for 16 over 16
starts : (m : StoredRelease) (r : Release) → IsStored m → IsRelease r → Room m (map (λ p. p.slot) m.placed) r.entries
starts m r stored release = record {
  apart = stored.apart;
  small = stored.slots;
  own = λ s own. own;
  room = omega (arith, length-map m.placed (λ p. p.slot), stored.few, release.few);
}

-- a held entry keeps its slot
placed_held : (m : StoredRelease) (taken : List ℕ) (es : List Entry) (k : ℕ) (p : Placed) (s : ℕ) → slice_get (placed_from m taken es) k ≡ Some p → held_slot m p.entry ≡ Some s → p.slot ≡ s
placed_held m taken [] k p s at held = absurd cc
placed_held m taken (e ∷ es) zero p s at held =
    let is : record { entry = e; slot = place_entry (held_slot m e) taken } ≡ p = same_Some _ _ at in
    let entry : e ≡ p.entry = ap (λ (q : Placed). q.entry) is in
    let slot : place_entry (held_slot m e) taken ≡ p.slot = ap (λ (q : Placed). q.slot) is in
    sym slot ∙ ap (λ (o : Option ℕ). place_entry o taken) (ap (held_slot m) entry ∙ held)
placed_held m taken (e ∷ es) (suc k) p s at held = placed_held m (place_entry (held_slot m e) taken ∷ taken) es k p s at held

-- no other gets one of the current release's
placed_new : (m : StoredRelease) (taken : List ℕ) (es : List Entry) (k : ℕ) (p : Placed) → Room m taken es → slice_get (placed_from m taken es) k ≡ Some p → held_slot m p.entry ≡ None → IsUnused m p.slot
placed_new m taken [] k p room at new = absurd cc
placed_new m taken (e ∷ es) zero p room at new =
    let is : record { entry = e; slot = place_entry (held_slot m e) taken } ≡ p = same_Some _ _ at in
    let entry : e ≡ p.entry = ap (λ (q : Placed). q.entry) is in
    let slot : place_entry (held_slot m e) taken ≡ p.slot = ap (λ (q : Placed). q.slot) is in
    let least : least_free taken ≡ p.slot = sym (ap (λ (o : Option ℕ). place_entry o taken) (ap (held_slot m) entry ∙ new)) ∙ slot in
    unused p.slot (subst (λ n. is_taken taken n ≡ false) least (free_here m taken e es room).1) (is_taken (map (λ p. p.slot) m.placed) p.slot) refl
  where
    unused : (s : ℕ) → is_taken taken s ≡ false → (b : Bool) → is_taken (map (λ p. p.slot) m.placed) s ≡ b → b ≡ false
    unused s free true is = absurd (both_ways (is_taken taken s) free (room.own s is))
    unused s free false is = refl
placed_new m taken (e ∷ es) (suc k) p room at new = placed_new m (place_entry (held_slot m e) taken ∷ taken) es k p (room_left m taken e es _ room) at new

pub slots_are_found : SlotsAreFound
slots_are_found = record {
  released = λ m r. ap (λ (es : List Entry). let whole : Release = record { number = r.number; entries = es } in whole) (placed_entries m (map (λ p. p.slot) m.placed) r.entries);
  stored = λ m r stored release. record {
    number = release.number;
    few = omega (arith, placed_count m (map (λ p. p.slot) m.placed) r.entries, release.few);
    entries = placed_good m (map (λ p. p.slot) m.placed) r.entries release.entries;
    distinct = subst AreDistinct (sym (placed_components m (map (λ p. p.slot) m.placed) r.entries)) release.distinct;
    slots = placed_low m (map (λ p. p.slot) m.placed) r.entries (starts m r stored release);
    apart = placed_apart m (map (λ p. p.slot) m.placed) r.entries (starts m r stored release) release.distinct;
  };
  held = λ m r k p s at held. placed_held m (map (λ p. p.slot) m.placed) r.entries k p s at held;
  new = λ m r k p stored release at new. placed_new m (map (λ p. p.slot) m.placed) r.entries k p (starts m r stored release) at new;
}
