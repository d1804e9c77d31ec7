-- Stored releases and their pages.
use Rattle.std.proofs.Common.{◌≡◌, inl, inr, ℕ, ◌+◌, ◌-◌, ◌*◌, ◌/◌, ◌%◌, ◌<◌, ◌≤◌, Bool, true, false, cond, eqb, Option, Some, None, List, [], ◌∷◌, ◌++◌, length, take, drop, get_or, map, replicate, refl, sym, ap, ap₂, subst, ◌∙◌, arith, slice_range, length-append}
use Rattle.std.specs.Prelude.{slice_get, not, ◌&&◌, ◌||◌, nat_lt, is_none, is_some, All}
use Rattle.std.specs.List.{flat_map, list_any, range_with_len, concat}
use Rattle.std.specs.Option.{option_map_or}
use Rattle.std.proofs.lemmas.Bool.{ltb-true, ltb-false, lt-ltb, and_parts, or_parts, cases_lt}
use Rattle.std.proofs.lemmas.List.{get_or_at, get_or-append-add, drop-replicate, take-replicate, length-replicate}
use Rattle.std.proofs.Math.Seq.{drop-append-add}
use Rattle.avr_reloc.specs.Field.{AreBytes}
use Rattle.avr_reloc.proofs.Fixups.{AreBytes-slice, length-field, get_or-slice}
use Rattle.component_package.specs.declared.manifest.Entry.{Entry}
use Rattle.component_package.specs.declared.manifest.ManifestFault.TheVariants.{Repeated, Length}
use Rattle.component_package.specs.packages.Numbers.{u32_at, u32_bytes}
use Rattle.component_package.specs.packages.Reading.{first_fault, list_of}
use Rattle.component_package.specs.packages.Manifest.{IsManifestEntry, manifest_entry_bytes, manifest_entry_at}
use Rattle.component_package.specs.packages.ManifestSteps.{fault_of_entry}
use Rattle.component_package.proofs.First.{no_fault, none_first, passed}
use Rattle.component_package.proofs.Lists.{length-list_of, all_of_list, all_at, list_of_entries}
use Rattle.component_package.proofs.ManifestLemmas.{entry_among, length-among, entry_wide, entry_passes, entry_again, entry_from_slice, number_again, element_at, apart_before, distinct_list, list_of-front}
use Rattle.component_package.proofs.StoredLemmas.{element_past, joined_slice, first_page_byte, bytes_joined, length-joined}
use Rattle.kept_definitions.specs.Stored.{StoredRelease, Placed, IsStored, Stores, stored_bytes, placed_bytes, placed_at, stored_in}
use Rattle.kept_manifests.specs.declared.pages.SlotManifest.{SlotManifest}
use Rattle.kept_manifests.specs.Slots.{IsSlotManifest, stored_of}
use Rattle.kept_manifests.specs.Steps.{is_place, place_fault, block_of}
use Rattle.kept_manifests.proofs.Numbered.{entry_at, slot_of, the_placed}

-- ---- places of a side

-- a place has 64 bytes
placed_wide : (p : Placed) → IsManifestEntry p.entry → length (placed_bytes p) ≡ 64
placed_wide p is = omega (arith, is.digest, length-append (manifest_entry_bytes p.entry) (p.slot ∷ cond p.fresh 1 0 ∷ replicate 24 0), entry_wide p.entry is)

-- an entry with its slot and mark is read again
read_front : List ℕ → Placed
read_front b = record { entry = manifest_entry_at b 0; slot = get_or b 38 0; fresh = eqb (get_or b 39 0) 1 }

-- a mark is read again
mark_again : (f : Bool) → eqb (cond f 1 0) 1 ≡ f
mark_again true = refl
mark_again false = refl

placed_again : (p : Placed) → IsManifestEntry p.entry → read_front (placed_bytes p) ≡ p
unfolding read_front
placed_again p is =
    let tail : List ℕ = p.slot ∷ cond p.fresh 1 0 ∷ replicate 24 0 in
    let slot : get_or (p.entry.digest ++ tail) 32 0 ≡ p.slot = get_or_at p.entry.digest p.slot (cond p.fresh 1 0 ∷ replicate 24 0) 0 32 is.digest in
    let byte : get_or (p.entry.digest ++ tail) 33 0 ≡ cond p.fresh 1 0 = byte_behind p.entry.digest tail is.digest in
    ap (λ (e : Entry). record (read_front (placed_bytes p)) { entry = e }) (entry_again p.entry tail is)
    ∙ ap (λ (s : ℕ). record p { slot = s; fresh = eqb (get_or (placed_bytes p) 39 0) 1 }) slot
    ∙ ap (λ (n : ℕ). record p { fresh = eqb n 1 }) byte ∙ ap (λ (f : Bool). record p { fresh = f }) (mark_again p.fresh)
  where
    byte_behind : (d tail : List ℕ) → length d ≡ 32 → get_or (d ++ tail) 33 0 ≡ get_or tail 1 0
    byte_behind d tail size = ap (λ (n : ℕ). get_or (d ++ tail) (n + 1) 0) (sym size) ∙ get_or-append-add d tail 1 0

-- and behind other bytes
placed_from_slice : (b : List ℕ) (at : ℕ) → read_front (slice_range b at (at + 64)) ≡ record { entry = manifest_entry_at b at; slot = get_or b (at + 38) 0; fresh = eqb (get_or b (at + 39) 0) 1 }
unfolding read_front
placed_from_slice b at = rw (entry_from_slice b at 64 (omega arith), get_or-slice b at (at + 64) 38 (omega arith), get_or-slice b at (at + 64) 39 (omega arith)) refl

-- the first page of a stored release
abbrev pub front_page : StoredRelease → List ℕ
front_page m = u32_bytes m.number ++ length m.placed ∷ 2 ∷ replicate 250 0

abbrev pub padding : StoredRelease → List ℕ
padding m = replicate (1024 - 64 * length m.placed) 0

-- what the bytes of a place are, of an entry or of zeros
pub block_at : (m : StoredRelease) → IsStored m → (i : ℕ) → i < 16 → take 64 (drop (256 + 64 * i) (stored_bytes m)) ≡ block_of m i
block_at m is i lt = elim (cases_lt i (length m.placed)) [
  | inl within ↦ here within (element_at m.placed i within)
  | inr past ↦ behind past
]
  where
    here : i < length m.placed → (x : Placed) × (slice_get m.placed i ≡ Some x) → take 64 (drop (256 + 64 * i) (stored_bytes m)) ≡ block_of m i
    here within x =
        let there = entry_among (λ (p : Placed). IsManifestEntry p.entry) placed_bytes 64 placed_wide m.placed (front_page m) (padding m) i x.0 is.entries x.1 in
        let n : 256 + 64 * i + 64 - (256 + 64 * i) ≡ 64 = omega arith in
        subst (λ (k : ℕ). take k (drop (256 + 64 * i) (stored_bytes m)) ≡ placed_bytes x.0) n there ∙ ap (λ (o : Option Placed). option_map_or placed_bytes o (replicate 64 0)) (sym x.1)

    behind : length m.placed ≤ i → take 64 (drop (256 + 64 * i) (stored_bytes m)) ≡ block_of m i
    behind past =
        let entries : List ℕ = flat_map placed_bytes m.placed in
        let size : length entries ≡ 64 * length m.placed = length-among (λ (p : Placed). IsManifestEntry p.entry) placed_bytes 64 placed_wide m.placed is.entries in
        let k : ℕ = 64 * i - length entries in
        let first : drop (256 + 64 * i) (stored_bytes m) ≡ drop (64 * i) (entries ++ padding m) = drop-append-add (front_page m) (entries ++ padding m) (64 * i) in
        let split : 64 * i ≡ length entries + k = omega arith in
        let second : drop (64 * i) (entries ++ padding m) ≡ drop k (padding m) = ap (λ (j : ℕ). drop j (entries ++ padding m)) split ∙ drop-append-add entries (padding m) k in
        let zeros : drop k (padding m) ≡ replicate (1024 - 64 * length m.placed - k) 0 = drop-replicate k (1024 - 64 * length m.placed) 0 in
        ap (take 64) (first ∙ second ∙ zeros) ∙ take-replicate 64 (1024 - 64 * length m.placed - k) 0 (omega (arith, is.few))
        ∙ ap (λ (o : Option Placed). option_map_or placed_bytes o (replicate 64 0)) (sym (element_past m.placed i past))

-- how long the five pages are
pub length-stored : (m : StoredRelease) → IsStored m → length (stored_bytes m) ≡ 1280
length-stored m is =
    let entries : List ℕ = flat_map placed_bytes m.placed in
    let size : length entries ≡ 64 * length m.placed = length-among (λ (p : Placed). IsManifestEntry p.entry) placed_bytes 64 placed_wide m.placed is.entries in
    length-append (front_page m) (entries ++ padding m) ∙ omega (arith, length-append entries (padding m), length-replicate {A = ℕ} (1024 - 64 * length m.placed) 0, is.few)

-- an entry with its slot is read where it stands
placed_read : (m : StoredRelease) → IsStored m → (i : ℕ) (p : Placed) → slice_get m.placed i ≡ Some p → placed_at (stored_bytes m) i ≡ p
placed_read m is i p here =
    let b = stored_bytes m in
    let at : ℕ = 256 + 64 * i in
    let good : IsManifestEntry p.entry = all_at (λ (q : Placed). IsManifestEntry q.entry) m.placed i p is.entries here in
    let there : slice_range b at (at + 64) ≡ placed_bytes p = entry_among (λ (q : Placed). IsManifestEntry q.entry) placed_bytes 64 placed_wide m.placed (front_page m) (padding m) i p is.entries here in
    sym (placed_from_slice b at) ∙ ap read_front there ∙ placed_again p good

-- pages that a stored release has say it
pub stored_again : (b : List ℕ) (m : StoredRelease) → Stores b m → stored_in b ≡ m
stored_again b m stores =
    let is = stores.stored in
    let d = stored_bytes m in
    let placed_are : list_of (placed_at d) (length m.placed) ≡ m.placed = list_of_entries (placed_at d) m.placed (placed_read m is) in
    ap stored_in stores.bytes ∙ ap₂ (λ (n : ℕ) (ps : List Placed). the_release n ps) (number_again m.number (length m.placed ∷ 2 ∷ replicate 250 0 ++ (flat_map placed_bytes m.placed ++ padding m))) placed_are
  where
    the_release : ℕ → List Placed → StoredRelease
    the_release n ps = record { number = n; placed = ps }

-- ---- entries that may stand where they do

none_some : {X : Type 0} (o : Option X) → is_none o ≡ true → o ≡ None
none_some None e = refl
none_some (Some x) e = absurd cc

-- no fault says that it may
may_stand : (b : List ℕ) (i : ℕ) → place_fault b i ≡ None → is_place (list_of (entry_at b) i) (list_of (slot_of b) i) (entry_at b i) (slot_of b i) ≡ true
may_stand b i none = go (is_place (list_of (entry_at b) i) (list_of (slot_of b) i) (entry_at b i) (slot_of b i)) none
  where
    go : (t : Bool) → cond t None (Some i) ≡ None → t ≡ true
    go true e = refl
    go false e = absurd cc

pub record Stands (b : List ℕ) (i : ℕ) : Type 0 where
  pub entry : fault_of_entry (list_of (entry_at b) i) (entry_at b i) ≡ None
  pub slot : slot_of b i < 16
  pub apart : list_any (λ s. eqb s (slot_of b i)) (list_of (slot_of b) i) ≡ false

stands : (b : List ℕ) (i : ℕ) → place_fault b i ≡ None → Stands b i
stands b i none =
    let both = and_parts (is_none (fault_of_entry (list_of (entry_at b) i) (entry_at b i)) && nat_lt (slot_of b i) 16) (not (list_any (λ s. eqb s (slot_of b i)) (list_of (slot_of b) i))) (may_stand b i none) in
    let front = and_parts (is_none (fault_of_entry (list_of (entry_at b) i) (entry_at b i))) (nat_lt (slot_of b i) 16) both.0 in
    record { entry = none_some _ front.0; slot = ltb-true _ _ front.1; apart = is_not (list_any (λ s. eqb s (slot_of b i)) (list_of (slot_of b) i)) both.1 }
  where
    is_not : (t : Bool) → not t ≡ true → t ≡ false
    is_not true e = absurd cc
    is_not false e = refl

-- an entry with its slot and mark is read from its page
pub placed_in_page : (ps : List (List ℕ)) (i : ℕ) → All (λ p. length p ≡ 256) ps → length ps ≡ 5 → i < 16
    → placed_at (concat ps) i ≡ the_placed (manifest_entry_at (get_or ps (1 + i / 4) []) (64 * (i % 4))) (get_or (get_or ps (1 + i / 4) []) (64 * (i % 4) + 38) 0) (eqb (get_or (get_or ps (1 + i / 4) []) (64 * (i % 4) + 39) 0) 1)
placed_in_page ps i all five lt =
    let at : 256 + 64 * i ≡ 256 * (1 + i / 4) + 64 * (i % 4) = omega arith in
    let same = joined_slice ps (1 + i / 4) (64 * (i % 4)) 64 all (omega arith) (omega arith) in
    sym (placed_from_slice (concat ps) (256 + 64 * i)) ∙ ap (λ (k : ℕ). read_front (slice_range (concat ps) k (k + 64))) at ∙ ap read_front same
    ∙ placed_from_slice (get_or ps (1 + i / 4) []) (64 * (i % 4))

-- ---- faultless places make a stored release

-- a test of what f gives at elements that a function numbers
list_any-list_of : {X Y : Type 0} (p : Y → Bool) (f : X → Y) (g : ℕ → X) (n : ℕ) → list_any p (list_of (λ k. f (g k)) n) ≡ list_any (λ x. p (f x)) (list_of g n)
list_any-list_of p f g n = go (range_with_len 0 n)
  where
    go : (ks : List ℕ) → list_any p (map (λ k. f (g k)) ks) ≡ list_any (λ x. p (f x)) (map g ks)
    go [] = refl
    go (k ∷ ks) = ap (λ (t : Bool). p (f (g k)) || t) (go ks)

-- an entry that was read and has no fault
good_entry : (b : List ℕ) (at : ℕ) (before : List Entry) → AreBytes b → at + 38 ≤ length b → fault_of_entry before (manifest_entry_at b at) ≡ None → IsManifestEntry (manifest_entry_at b at)
good_entry b at before bytes long none =
    let e = manifest_entry_at b at in
    let first = passed (list_any (λ f. eqb f.component e.component) before) (Repeated e.component) _ none in
    let then_length = passed (nat_lt e.length 32 || nat_lt 9984 e.length) (Length e.length) _ first.1 in
    let both = or_parts (nat_lt e.length 32) (nat_lt 9984 e.length) then_length.0 in
    let w : at + 6 + 32 ≡ at + 38 = omega arith in
    record {
      component = omega (arith, bytes at, bytes (at + 1));
      version = omega (arith, bytes (at + 2), bytes (at + 2 + 1));
      least = ltb-false _ _ both.0;
      most = ltb-false _ _ both.1;
      digest = subst (λ (k : ℕ). length (slice_range b (at + 6) k) ≡ 32) w (length-field b (at + 6) 32 (omega arith));
      bytes = AreBytes-slice b (at + 6) (at + 38) bytes;
    }

-- its component is new
new_component : (before : List Entry) (e : Entry) → fault_of_entry before e ≡ None → list_any (λ f. eqb f.component e.component) before ≡ false
new_component before e none = (passed (list_any (λ f. eqb f.component e.component) before) (Repeated e.component) _ none).0

-- the release that pages say whose places have no fault
pub stored_good : (b : List ℕ) → AreBytes b → length b ≡ 1280 → get_or b 4 0 ≤ 16 → first_fault (place_fault b) (get_or b 4 0) ≡ None → IsStored (stored_in b)
stored_good b bytes size few none =
    let n : ℕ = get_or b 4 0 in
    let count : length (list_of (placed_at b) n) ≡ n = length-list_of (placed_at b) n in
    let each : (i : ℕ) → i < n → Stands b i = λ i lt. stands b i (no_fault (place_fault b) n i none lt) in
    record {
      number = omega (arith, bytes 0, bytes 1, bytes 2, bytes 3);
      few = omega (arith, count, few);
      entries = all_of_list (λ (p : Placed). IsManifestEntry p.entry) (placed_at b) n (λ i lt. good_entry b (256 + 64 * i) (list_of (entry_at b) i) bytes (omega (arith, size)) (each i lt).entry);
      distinct = distinct_list (λ (p : Placed). p.entry.component) (placed_at b) n (λ i lt. sym (list_any-list_of (λ (e : Entry). eqb e.component (entry_at b i).component) (λ (p : Placed). p.entry) (placed_at b) i) ∙ (new_component (list_of (entry_at b) i) (entry_at b i) (each i lt).entry));
      slots = all_of_list (λ (p : Placed). p.slot < 16) (placed_at b) n (λ i lt. (each i lt).slot);
      apart = distinct_list (λ (p : Placed). p.slot) (placed_at b) n (λ i lt. sym (list_any-list_of (λ (s : ℕ). eqb s (slot_of b i)) (λ (p : Placed). p.slot) (placed_at b) i) ∙ (each i lt).apart);
    }

stand_passes : (es : List Entry) (ss : List ℕ) (e : Entry) (slot : ℕ) → fault_of_entry es e ≡ None → slot < 16 → list_any (λ s. eqb s slot) ss ≡ false → is_place es ss e slot ≡ true
stand_passes es ss e slot none low apart =
    let small : nat_lt slot 16 ≡ true = lt-ltb slot 16 low in
    rw (none, small, apart) refl

-- a release's places have no fault
pub stored_stands : (b : List ℕ) (m : StoredRelease) → Stores b m → first_fault (place_fault b) (get_or b 4 0) ≡ None
stored_stands b m stores =
    subst (λ (l : List ℕ). first_fault (place_fault l) (get_or l 4 0) ≡ None) (sym stores.bytes) (none_first (place_fault (stored_bytes m)) (length m.placed) (λ i lt. at i lt (element_at m.placed i lt)))
  where
    at : (i : ℕ) → i < length m.placed → (p : Placed) × (slice_get m.placed i ≡ Some p) → place_fault (stored_bytes m) i ≡ None
    at i lt x =
        let is = stores.stored in
        let d = stored_bytes m in
        let p : Placed = x.0 in
        let read : placed_at d i ≡ p = placed_read m is i p x.1 in
        let front : list_of (placed_at d) i ≡ take i m.placed = list_of-front (placed_at d) m.placed i (placed_read m is) lt in
        let new : list_any (λ f. eqb f.component p.entry.component) (list_of (entry_at d) i) ≡ false =
        list_any-list_of (λ (e : Entry). eqb e.component p.entry.component) (λ (q : Placed). q.entry) (placed_at d) i
        ∙ ap (list_any (λ (q : Placed). eqb q.entry.component p.entry.component)) front ∙ apart_before (λ (q : Placed). q.entry.component) m.placed i p is.distinct x.1 in
        let apart : list_any (λ s. eqb s p.slot) (list_of (slot_of d) i) ≡ false =
        list_any-list_of (λ (s : ℕ). eqb s p.slot) (λ (q : Placed). q.slot) (placed_at d) i
        ∙ ap (list_any (λ (q : Placed). eqb q.slot p.slot)) front ∙ apart_before (λ (q : Placed). q.slot) m.placed i p is.apart x.1 in
        let good : IsManifestEntry p.entry = all_at (λ (q : Placed). IsManifestEntry q.entry) m.placed i p is.entries x.1 in
        let low : p.slot < 16 = all_at (λ (q : Placed). q.slot < 16) m.placed i p is.slots x.1 in
        let passes : is_place (list_of (entry_at d) i) (list_of (slot_of d) i) p.entry p.slot ≡ true = stand_passes (list_of (entry_at d) i) (list_of (slot_of d) i) p.entry p.slot (entry_passes (list_of (entry_at d) i) p.entry good new) low apart in
        ap (λ (q : Placed). cond (is_place (list_of (entry_at d) i) (list_of (slot_of d) i) q.entry q.slot) None (Some i)) read ∙ ap (λ (t : Bool). cond t None (Some i)) passes

-- ---- what the code reads

-- the manifest that was read is what the pages say, and is a stored release
pub record IsRead (ps : List (List ℕ)) (m : SlotManifest) : Type 0 where
  pub same : stored_of m ≡ stored_in (concat ps)
  pub is : IsSlotManifest m

not_some : {X : Type 0} (o : Option X) → false ≡ is_some o → o ≡ None
not_some None e = refl
not_some (Some x) e = absurd cc

pub is_read : (ps : List (List ℕ)) (m : SlotManifest) → length ps ≡ 5 → All (λ p. length p ≡ 256) ps → All AreBytes ps → get_or (get_or ps 0 []) 4 0 ≤ 16
    → false ≡ is_some (first_fault (place_fault (concat ps)) (get_or (get_or ps 0 []) 4 0)) → m.manifest.count ≡ get_or (get_or ps 0 []) 4 0 → m.manifest.release ≡ u32_at (concat ps) 0
    → (stored_of m).placed ≡ list_of (placed_at (concat ps)) (get_or (get_or ps 0 []) 4 0) → IsRead ps m
is_read ps m five sizes bytes few none count number placed =
    let b : List ℕ = concat ps in
    let fourth : get_or b 4 0 ≡ get_or (get_or ps 0 []) 4 0 = first_page_byte ps 4 sizes (omega arith) (omega arith) in
    let size : length b ≡ 1280 = length-joined ps sizes ∙ omega arith in
    let faultless : first_fault (place_fault b) (get_or b 4 0) ≡ None = ap (first_fault (place_fault b)) fourth ∙ not_some _ none in
    let same : stored_of m ≡ stored_in b = ap₂ the_release number (placed ∙ ap (list_of (placed_at b)) (sym fourth)) in
    record {
      same = same;
      is = record { count = omega arith; stored = subst IsStored (sym same) (stored_good b (bytes_joined ps bytes) size (omega arith) faultless) };
    }
  where
    the_release : ℕ → List Placed → StoredRelease
    the_release n ps = record { number = n; placed = ps }

-- pages of a stored release have its count, at most 16
pub stored_few : (b : List ℕ) (m : StoredRelease) → Stores b m → get_or b 4 0 ≤ 16
stored_few b m stores = subst (λ (l : List ℕ). get_or l 4 0 ≤ 16) (sym stores.bytes) stores.stored.few
