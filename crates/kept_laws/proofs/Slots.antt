-- Slots for a new release: each entry finds one of its own among 16.
use Rattle.std.proofs.Common.{◌≡◌, ◌≢◌, ⊎_elim, ℕ, zero, suc, ◌+◌, ◌<◌, ◌≤◌, ◌||◌, Bool, true, false, not, cond, eqb, List, [], ◌∷◌, ◌++◌, length, map, Option, Some, None, refl, sym, ap, ◌∙◌, subst, arith, slice_get, length-append, append_assoc}
use Rattle.std.specs.Prelude.{find, unwrap_or, is_some}
use Rattle.std.specs.List.{list_any, AllByRecursion}
use Rattle.std.specs.Option.{option_map}
use Rattle.std.proofs.lemmas.Option.{same_Some}
use Rattle.std.proofs.lemmas.List.Concat.{flat_map-cons}
use Rattle.std.proofs.lemmas.List.Folds.{list_any-append}
use Rattle.std.proofs.lemmas.Bool.{eq-eqb, both_ways, or_parts, or_from, or_left, or_right, ne_eqb}
use Rattle.component_package.specs.declared.manifest.Entry.{Entry}
use Rattle.component_package.specs.packages.Manifest.{Release, IsManifestEntry, IsRelease, AreDistinct}
use Rattle.component_package.specs.mote.Store.{is_same_entry, is_taken}
use Rattle.kept_definitions.specs.Stored.{Placed, StoredRelease, IsStored}
use Rattle.kept_definitions.specs.Kept.{held_slot, slot_list, held_slots, least_free, place, placed_from}
use Rattle.mote_laws.proofs.Slots.{first_free, taken_at_most, same_component}
use Rattle.kept_laws.specs.Slots.{SlotIsFree, SlotsAreFound}

pub slot_is_free : SlotIsFree
slot_is_free taken few = ⊎_elim
    (λ found. let is : least_free taken ≡ found.0 = ap (λ (o : Option ℕ). unwrap_or o 0) found.1 in (rw is found.2, rw is found.3))
    (λ all. absurd (omega (arith, taken_at_most taken 0 16)))
    (first_free taken 0 16)

-- ---- what the current release holds

-- the slot of the first of these that is the entry's
abbrev held_in : List Placed → Entry → Option ℕ
held_in ps e = option_map (λ p. p.slot) (find (λ p. is_same_entry p.entry e) ps)

-- a held entry's slot is one of the release's
held_taken : (ps : List Placed) (e : Entry) (s : ℕ) → held_in ps e ≡ Some s → is_taken (map (λ p. p.slot) ps) s ≡ true
held_taken [] e s held = cc
held_taken (p ∷ ps) e s held = at (is_same_entry p.entry e) held (held_taken ps e s)
  where
    at : (b : Bool) → option_map (λ p. p.slot) (cond b (Some p) (find (λ p. is_same_entry p.entry e) ps)) ≡ Some s → (held_in ps e ≡ Some s → is_taken (map (λ p. p.slot) ps) s ≡ true)
        → (eqb p.slot s || is_taken (map (λ p. p.slot) ps) s) ≡ true
    at true here rest = or_left (eqb p.slot s) _ (eq-eqb p.slot s (let e : p.slot ≡ s = cc in e))
    at false later rest = or_right (eqb p.slot s) _ (rest later)

-- and below 16
held_small : (ps : List Placed) (e : Entry) (s : ℕ) → AllByRecursion (λ p. p.slot < 16) ps → held_in ps e ≡ Some s → s < 16
held_small [] e s small held = absurd cc
held_small (p ∷ ps) e s small held = at (is_same_entry p.entry e) held (held_small ps e s small.1)
  where
    at : (b : Bool) → option_map (λ p. p.slot) (cond b (Some p) (find (λ p. is_same_entry p.entry e) ps)) ≡ Some s → (held_in ps e ≡ Some s → s < 16) → s < 16
    at true here rest = let e : p.slot ≡ s = cc in let low : p.slot < 16 = small.0 in omega arith
    at false later rest = rest later

-- two entries that one slot holds are of one component
held_once : (ps : List Placed) (e f : Entry) (s : ℕ) → AreDistinct (map (λ p. p.slot) ps) → held_in ps e ≡ Some s → held_in ps f ≡ Some s → e.component ≡ f.component
held_once [] e f s apart held_e held_f = absurd cc
held_once (p ∷ ps) e f s apart held_e held_f = at (is_same_entry p.entry e) (is_same_entry p.entry f) refl refl held_e held_f (held_once ps e f s apart.1)
  where
    only : (g : Entry) → p.slot ≡ s → held_in ps g ≡ Some s → ⊥
    only g is held = both_ways (is_taken (map (λ p. p.slot) ps) s) (subst (λ n. is_taken (map (λ p. p.slot) ps) n ≡ false) is apart.0) (held_taken ps g s held)

    at : (b c : Bool) → is_same_entry p.entry e ≡ b → is_same_entry p.entry f ≡ c → option_map (λ p. p.slot) (cond b (Some p) (find (λ p. is_same_entry p.entry e) ps)) ≡ Some s
        → option_map (λ p. p.slot) (cond c (Some p) (find (λ p. is_same_entry p.entry f) ps)) ≡ Some s
        → (held_in ps e ≡ Some s → held_in ps f ≡ Some s → e.component ≡ f.component) → e.component ≡ f.component
    at true true is_e is_f here_e here_f rest = sym (same_component p.entry e is_e) ∙ same_component p.entry f is_f
    at true false is_e is_f here_e later_f rest = absurd (only f (let i : p.slot ≡ s = cc in i) later_f)
    at false true is_e is_f later_e here_f rest = absurd (only e (let i : p.slot ≡ s = cc in i) later_e)
    at false false is_e is_f later_e later_f rest = rest later_e later_f

-- ---- the entries one after another

-- the slot of an entry, and what is taken behind it, by what is held
abbrev slot_by : Option ℕ → List ℕ → ℕ
slot_by o taken = unwrap_or o (least_free taken)

abbrev taken_by : Option ℕ → List ℕ → List ℕ
taken_by o taken = cond (not (is_some o)) (slot_by o taken ∷ taken) taken

-- how many of these aren't held
abbrev fresh_count : StoredRelease → List Entry → ℕ
fresh_count m [] = 0
fresh_count m (e ∷ es) = cond (is_some (held_slot m e)) 0 1 + fresh_count m es

-- the slots of those that are held are taken
abbrev AreTaken : StoredRelease → List ℕ → List Entry → Type 0
AreTaken m taken es = AllByRecursion (λ e. (s : ℕ) → held_slot m e ≡ Some s → is_taken taken s ≡ true) es

-- what the entries from here on are placed over
record Room (m : StoredRelease) (taken : List ℕ) (es : List Entry) : Type 0 where
  apart : AreDistinct (map (λ p. p.slot) m.placed)
  small : AllByRecursion (λ p. p.slot < 16) m.placed
  own : AreTaken m taken es
  room : length taken + fresh_count m es ≤ 16

-- more is taken
still_taken : (m : StoredRelease) (t : ℕ) (taken : List ℕ) (es : List Entry) → AreTaken m taken es → AreTaken m (t ∷ taken) es
still_taken m t taken [] all = tt
still_taken m t taken (e ∷ es) all = (λ s held. or_right (eqb t s) (is_taken taken s) (all.0 s held), still_taken m t taken es all.1)

-- one entry further on
room_left : (m : StoredRelease) (taken : List ℕ) (e : Entry) (es : List Entry) → Room m taken (e ∷ es) → (o : Option ℕ) → held_slot m e ≡ o → Room m (taken_by o taken) es
room_left m taken e es room (Some s) is = record {
  apart = room.apart;
  small = room.small;
  own = room.own.1;
  room = (let h = rw is at room.room in omega (arith, h));
}
room_left m taken e es room None is = record {
  apart = room.apart;
  small = room.small;
  own = still_taken m (least_free taken) taken es room.own.1;
  room = (let h = rw is at room.room in omega (arith, h));
}

-- where an entry isn't held, a slot is free for it
free_here : (m : StoredRelease) (taken : List ℕ) (e : Entry) (es : List Entry) → Room m taken (e ∷ es) → held_slot m e ≡ None → (least_free taken < 16) × (is_taken taken (least_free taken) ≡ false)
free_here m taken e es room is = slot_is_free taken (let h = rw is at room.room in omega (arith, h))

-- what is taken stays taken
taken_on : (s : ℕ) (taken : List ℕ) (o : Option ℕ) → is_taken taken s ≡ true → is_taken (taken_by o taken) s ≡ true
taken_on s taken (Some t) given = given
taken_on s taken None given = or_right (eqb (least_free taken) s) (is_taken taken s) given

-- a slot that is taken is given to no later entry that hasn't it
later_apart : (m : StoredRelease) (s : ℕ) (taken : List ℕ) (es : List Entry) → Room m taken es → is_taken taken s ≡ true → AllByRecursion (λ f. held_slot m f ≢ Some s) es
    → list_any (λ y. eqb y s) (map (λ p. p.slot) (placed_from m taken es)) ≡ false
later_apart m s taken [] room given others = refl
later_apart m s taken (f ∷ es) room given others =
    or_from (eqb (slot_by (held_slot m f) taken) s) (list_any (λ y. eqb y s) (map (λ p. p.slot) (placed_from m (taken_by (held_slot m f) taken) es))) (head (held_slot m f) refl)
    (later_apart m s (taken_by (held_slot m f) taken) es (room_left m taken f es room (held_slot m f) refl) (taken_on s taken (held_slot m f) given) others.1)
  where
    head : (o : Option ℕ) → held_slot m f ≡ o → eqb (slot_by o taken) s ≡ false
    head None is = ne_eqb (least_free taken) s (λ same. both_ways (is_taken taken s) (subst (λ n. is_taken taken n ≡ false) same (free_here m taken f es room is).1) given)
    head (Some t) is = ne_eqb t s (λ same. others.0 (is ∙ ap (λ (n : ℕ). Some n) same))

-- no later entry of another component has this entry's slot
others_held : (m : StoredRelease) (e : Entry) (s : ℕ) → AreDistinct (map (λ p. p.slot) m.placed) → held_slot m e ≡ Some s → (es : List Entry)
    → list_any (λ y. eqb y e.component) (map (λ f. f.component) es) ≡ false → AllByRecursion (λ f. held_slot m f ≢ Some s) es
others_held m e s apart held [] others = tt
others_held m e s apart held (f ∷ es) others =
    let both = or_parts (eqb f.component e.component) (list_any (λ y. eqb y e.component) (map (λ f. f.component) es)) others in
    (λ held_f. both_ways (eqb f.component e.component) both.0 (eq-eqb f.component e.component (held_once m.placed f e s apart held_f held)), others_held m e s apart held es both.1)

-- nor a slot that is free
free_unheld : (m : StoredRelease) (s : ℕ) (taken : List ℕ) → is_taken taken s ≡ false → (es : List Entry) → AreTaken m taken es → AllByRecursion (λ f. held_slot m f ≢ Some s) es
free_unheld m s taken free [] all = tt
free_unheld m s taken free (f ∷ es) all = (λ held. both_ways (is_taken taken s) free (all.0 s held), free_unheld m s taken free es all.1)

-- the slots of the entries, no two the same
placed_apart : (m : StoredRelease) (taken : List ℕ) (es : List Entry) → Room m taken es → AreDistinct (map (λ f. f.component) es) → AreDistinct (map (λ p. p.slot) (placed_from m taken es))
placed_apart m taken [] room others = tt
placed_apart m taken (e ∷ es) room others =
    (here (held_slot m e) refl, placed_apart m (taken_by (held_slot m e) taken) es (room_left m taken e es room (held_slot m e) refl) others.1)
  where
    here : (o : Option ℕ) → held_slot m e ≡ o → list_any (λ y. eqb y (slot_by o taken)) (map (λ p. p.slot) (placed_from m (taken_by o taken) es)) ≡ false
    here (Some s) is = later_apart m s taken es (room_left m taken e es room (Some s) is) (room.own.0 s is) (others_held m e s room.apart is es others.0)
    here None is =
        let s = least_free taken in
        later_apart m s (s ∷ taken) es (room_left m taken e es room None is)
        (or_left (eqb s s) (is_taken taken s) (eq-eqb s s refl)) (free_unheld m s taken (free_here m taken e es room is).1 es room.own.1)

-- each slot is below 16
placed_low : (m : StoredRelease) (taken : List ℕ) (es : List Entry) → Room m taken es → AllByRecursion (λ p. p.slot < 16) (placed_from m taken es)
placed_low m taken [] room = tt
placed_low m taken (e ∷ es) room = (here (held_slot m e) refl, placed_low m (taken_by (held_slot m e) taken) es (room_left m taken e es room (held_slot m e) refl))
  where
    here : (o : Option ℕ) → held_slot m e ≡ o → slot_by o taken < 16
    here (Some s) is = held_small m.placed e s room.small is
    here None is = (free_here m taken e es room is).0

-- the entries, how many, their components, and that they are good
placed_entries : (m : StoredRelease) (taken : List ℕ) (es : List Entry) → map (λ p. p.entry) (placed_from m taken es) ≡ es
placed_entries m taken [] = refl
placed_entries m taken (e ∷ es) = ap (λ (fs : List Entry). e ∷ fs) (placed_entries m (taken_by (held_slot m e) taken) es)

placed_count : (m : StoredRelease) (taken : List ℕ) (es : List Entry) → length (placed_from m taken es) ≡ length es
placed_count m taken [] = refl
placed_count m taken (e ∷ es) = ap suc (placed_count m (taken_by (held_slot m e) taken) es)

placed_components : (m : StoredRelease) (taken : List ℕ) (es : List Entry) → map (λ p. p.entry.component) (placed_from m taken es) ≡ map (λ e. e.component) es
placed_components m taken [] = refl
placed_components m taken (e ∷ es) = ap (λ (fs : List ℕ). e.component ∷ fs) (placed_components m (taken_by (held_slot m e) taken) es)

placed_good : (m : StoredRelease) (taken : List ℕ) (es : List Entry) → AllByRecursion IsManifestEntry es → AllByRecursion (λ p. IsManifestEntry p.entry) (placed_from m taken es)
placed_good m taken [] good = tt
placed_good m taken (e ∷ es) good = (good.0, placed_good m (taken_by (held_slot m e) taken) es good.1)

-- ---- the beginning

-- the held slots of one more entry
held_more : (m : StoredRelease) (e : Entry) (es : List Entry) → held_slots m (e ∷ es) ≡ slot_list (held_slot m e) ++ held_slots m es
held_more m e es = flat_map-cons (λ f. slot_list (held_slot m f)) e es

-- the held slots of entries, behind others, hold them
held_are_taken : (m : StoredRelease) (front : List ℕ) (es : List Entry) → AreTaken m (front ++ held_slots m es) es
held_are_taken m front [] = tt
held_are_taken m front (e ∷ es) = (
  λ s held. ap (λ (l : List ℕ). is_taken (front ++ l) s) (held_more m e es ∙ ap (λ (o : Option ℕ). slot_list o ++ held_slots m es) held)
      ∙ list_any-append (λ t. eqb t s) front (s ∷ held_slots m es)
      ∙ or_right (is_taken front s) (is_taken (s ∷ held_slots m es) s) (or_left (eqb s s) (is_taken (held_slots m es) s) (eq-eqb s s refl)),
  subst (λ (l : List ℕ). AreTaken m l es) (append_assoc front (slot_list (held_slot m e)) (held_slots m es) ∙ ap (λ (l : List ℕ). front ++ l) (sym (held_more m e es)))
      (held_are_taken m (front ++ slot_list (held_slot m e)) es),
)

-- each entry is held or fresh
counted : (m : StoredRelease) (es : List Entry) → length (held_slots m es) + fresh_count m es ≡ length es
counted m [] = refl
counted m (e ∷ es) =
    let split : length (held_slots m (e ∷ es)) ≡ length (slot_list (held_slot m e)) + length (held_slots m es) =
    ap length (held_more m e es) ∙ length-append (slot_list (held_slot m e)) (held_slots m es) in
    let one = here (held_slot m e) in
    let rest = counted m es in
    omega (arith, split, one, rest)
  where
    here : (o : Option ℕ) → length (slot_list o) + cond (is_some o) 0 1 ≡ 1
    here None = refl
    here (Some s) = refl

-- there is room for all
starts : (m : StoredRelease) (r : Release) → IsStored m → IsRelease r → Room m (held_slots m r.entries) r.entries
starts m r stored release = record {
  apart = stored.apart;
  small = stored.slots;
  own = held_are_taken m [] r.entries;
  room = omega (arith, counted m r.entries, release.few);
}

-- ---- what an entry gets

-- the entry at k by what is held
got : (m : StoredRelease) (taken : List ℕ) (es : List Entry) (k : ℕ) (p : Placed) → slice_get (placed_from m taken es) k ≡ Some p
    → (t : List ℕ) × (p.slot ≡ slot_by (held_slot m p.entry) t) × (p.fresh ≡ not (is_some (held_slot m p.entry)))
got m taken [] k p at = absurd cc
got m taken (e ∷ es) zero p at =
    let is : place m taken e ≡ p = same_Some (place m taken e) p at in
    subst (λ (q : Placed). (t : List ℕ) × (q.slot ≡ slot_by (held_slot m q.entry) t) × (q.fresh ≡ not (is_some (held_slot m q.entry)))) is (taken, refl, refl)
got m taken (e ∷ es) (suc k) p at = got m (taken_by (held_slot m e) taken) es k p at

pub slots_are_found : SlotsAreFound
slots_are_found = record {
  released = λ m r. ap (λ (es : List Entry). let whole : Release = record { number = r.number; entries = es } in whole) (placed_entries m (held_slots m r.entries) r.entries);
  stored = λ m r stored release. record {
    number = release.number;
    few = omega (arith, placed_count m (held_slots m r.entries) r.entries, release.few);
    entries = placed_good m (held_slots m r.entries) r.entries release.entries;
    distinct = subst AreDistinct (sym (placed_components m (held_slots m r.entries) r.entries)) release.distinct;
    slots = placed_low m (held_slots m r.entries) r.entries (starts m r stored release);
    apart = placed_apart m (held_slots m r.entries) r.entries (starts m r stored release) release.distinct;
  };
  held = λ m r k p s at held. let g = got m (held_slots m r.entries) r.entries k p at in
      (g.1 ∙ ap (λ (o : Option ℕ). slot_by o g.0) held, g.2 ∙ ap (λ (o : Option ℕ). not (is_some o)) held);
  fresh = λ m r k p at new. let g = got m (held_slots m r.entries) r.entries k p at in g.2 ∙ ap (λ (o : Option ℕ). not (is_some o)) new;
}
