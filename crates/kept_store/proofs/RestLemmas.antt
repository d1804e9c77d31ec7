-- The installed set: its headers, and where its parts stand.
use Rattle.std.proofs.Common.{◌≡◌, ◌≢◌, inl, inr, ℕ, zero, suc, ◌+◌, ◌%◌, ◌<◌, ◌≤◌, Bool, false, Some, List, [], ◌∷◌, length, take, get_or, set, map, replicate, refl, sym, ap, ap₂, subst, ◌∙◌, arith}
use Rattle.std.specs.Prelude.{slice_get, IsTrue}
use Rattle.std.specs.List.{sum_by, AllByRecursion}
use Rattle.std.proofs.lemmas.List.{length-map, take_all, get_or-set_other, get_or-set_same}
use Rattle.std.proofs.lemmas.Bool.{cases_lt}
use Rattle.std.proofs.lemmas.List.Sums.{sum_by_more}
use Rattle.std.proofs.lemmas.Option.{slice_get_within, same_Some, get_or_from_slice_get}
use Rattle.flash_pages.specs.State.{State}
use Rattle.component_package.specs.declared.part.Header.{Header}
use Rattle.component_package.specs.declared.manifest.Entry.{Entry}
use Rattle.component_package.specs.packages.Component.{Component}
use Rattle.component_package.specs.packages.Reading.{header_of_component, has_even_lengths}
use Rattle.component_package.specs.packages.Manifest.{AreDistinct, IsManifestEntry}
use Rattle.component_package.specs.link.Layout.{Room, room_of, code_total, init_total, code_base, load_base}
use Rattle.component_package.specs.link.Link.{rooms_of}
use Rattle.component_package.proofs.Lists.{length-list_of, slice_get-list_of, all_at}
use Rattle.component_package.proofs.ReadAgain.{length-spelling}
use Rattle.component_store.specs.Sets.{IsHeaderOf, AreHeaders}
use Rattle.link_laws.proofs.Own.{no_cause}
use Rattle.link_laws.proofs.Room.{room_from_cause}
use Rattle.kept_definitions.specs.Stored.{Placed, StoredRelease, IsStored, Stores}
use Rattle.kept_definitions.specs.Kept.{inbox_of, tables_of}
use Rattle.kept_definitions.specs.Sides.{kept_set, parts_of, is_pending, chosen_side}
use Rattle.kept_definitions.specs.Sound.{IsInstalled, IsSound}
use Rattle.kept_laws.specs.Laws.{AreAll, IsInTable, IsPackageOf}
use Rattle.kept_laws.specs.Held.{IsReadable, installed}
use Rattle.kept_laws.proofs.Sets.{kept_is_the_set}
use Rattle.kept_laws.proofs.Stored.{release_one}
use Rattle.kept_laws.proofs.Store.{run_tells}
use Rattle.kept_laws.proofs.Held.{installed_is_readable}
use Rattle.kept_manifests.specs.declared.pages.SlotManifest.{SlotManifest}
use Rattle.kept_manifests.specs.Slots.{IsSlotManifest, no_entry, place_of, stored_of}
use Rattle.kept_manifests.proofs.Numbered.{list_of_same}
use Rattle.kept_store.specs.declared.set.StoredSet.{StoredSet}
use Rattle.kept_store.specs.Sets.{IsComponentOf, HoldsSet, HasInstalled, no_header, at_rest}
use Rattle.kept_store.specs.Open.{HasTableHeaders, FitsFlash, IsAtRest}

-- ---- releases with no fresh entry

map_all : {X Y : Type 0} (f : X → Y) (P : Y → Type 0) (Q : X → Type 0) → ((x : X) → Q x → P (f x)) → (xs : List X) → AllByRecursion Q xs → AllByRecursion P (map f xs)
map_all f P Q each [] all = tt
map_all f P Q each (x ∷ xs) all = (each x all.0, map_all f P Q each xs all.1)

map_through : {X Y : Type 0} (f : X → X) (g : X → Y) → ((x : X) → g (f x) ≡ g x) → (xs : List X) → map g (map f xs) ≡ map g xs
map_through f g each [] = refl
map_through {X} {Y} f g each (x ∷ xs) = ap₂ (λ (y : Y) (ys : List Y). y ∷ ys) (each x) (map_through f g each xs)

-- they are stored too
pub rest_stored : (m : StoredRelease) → IsStored m → IsStored (at_rest m)
rest_stored m is = record {
  number = is.number;
  few = omega (arith, is.few, length-map m.placed installed);
  entries = map_all installed (λ (p : Placed). IsManifestEntry p.entry) (λ (p : Placed). IsManifestEntry p.entry) (λ p h. h) m.placed is.entries;
  distinct = subst AreDistinct (sym (map_through installed (λ (p : Placed). p.entry.component) (λ p. refl) m.placed)) is.distinct;
  slots = map_all installed (λ (p : Placed). p.slot < 16) (λ (p : Placed). p.slot < 16) (λ p h. h) m.placed is.slots;
  apart = subst AreDistinct (sym (map_through installed (λ (p : Placed). p.slot) (λ p. refl) m.placed)) is.apart;
}

-- a mark that none is
pub no_mark : (n k : ℕ) → get_or (replicate n false) k false ≡ false
no_mark zero k = refl
no_mark (suc n) zero = refl
no_mark (suc n) (suc k) = no_mark n k

numbered : {X Y : Type 0} (f : X → Y) (g : ℕ → X) (ks : List ℕ) → map f (map g ks) ≡ map (λ k. f (g k)) ks
numbered f g [] = refl
numbered {X} {Y} f g (k ∷ ks) = ap (λ (ys : List Y). f (g k) ∷ ys) (numbered f g ks)

-- the manifest with no mark
abbrev pub unmarked : SlotManifest → SlotManifest
unmarked m = record m { fresh = replicate 16 false }

pub unmarked_is : (m : SlotManifest) → stored_of (unmarked m) ≡ at_rest (stored_of m)
unmarked_is m = ap (the_release m.manifest.release) (list_of_same (place_of (unmarked m)) (λ k. installed (place_of m k)) m.manifest.count (λ k lt. same k) ∙ sym (numbered installed (place_of m) _))
  where
    the_release : ℕ → List Placed → StoredRelease
    the_release n ps = record { number = n; placed = ps }

    same : (k : ℕ) → place_of (unmarked m) k ≡ installed (place_of m k)
    same k = ap (λ (f : Bool). record (place_of m k) { fresh = f }) (no_mark 16 k)

pub unmarked_stored : (m : SlotManifest) → IsSlotManifest m → IsSlotManifest (unmarked m)
unmarked_stored m is = record { count = is.count; stored = subst IsStored (sym (unmarked_is m)) (rest_stored (stored_of m) is.stored) }

-- ---- sums

-- sums of lists that agree place by place
pub sum_alike : {X Y : Type 0} (f : X → ℕ) (g : Y → ℕ) (xs : List X) (ys : List Y) (d : X) (e : Y) (n : ℕ) → n ≤ length xs → n ≤ length ys
    → ((k : ℕ) → k < n → f (get_or xs k d) ≡ g (get_or ys k e)) → sum_by f (take n xs) ≡ sum_by g (take n ys)
sum_alike f g xs ys d e zero long wide same = refl
sum_alike f g xs ys d e (suc n) long wide same =
    let more : suc n ≡ n + 1 = omega arith in
    ap (λ (k : ℕ). sum_by f (take k xs)) more ∙ sum_by_more f xs n d (omega arith) ∙ ap₂ (λ (a b : ℕ). a + b) (sum_alike f g xs ys d e n (omega arith) (omega arith) (λ k lt. same k (omega arith))) (same n (omega arith))
    ∙ sym (ap (λ (k : ℕ). sum_by g (take k ys)) more ∙ sum_by_more g ys n e (omega arith))

-- a sum grows
pub sum_grows : {X : Type 0} (f : X → ℕ) (xs : List X) (d : X) (k n : ℕ) → k < n → n ≤ length xs → sum_by f (take k xs) + f (get_or xs k d) ≤ sum_by f (take n xs)
sum_grows f xs d k zero lt long = absurd (omega arith)
sum_grows f xs d k (suc n) lt long =
    let more : suc n ≡ n + 1 = omega arith in
    let whole : sum_by f (take (suc n) xs) ≡ sum_by f (take n xs) + f (get_or xs n d) = ap (λ (k : ℕ). sum_by f (take k xs)) more ∙ sum_by_more f xs n d (omega arith) in
    elim (cases_lt k n) [
      | inl below ↦ omega (arith, whole, sum_grows f xs d k n below (omega arith))
      | inr not_below ↦
          let same : k ≡ n = omega arith in
          subst (λ (j : ℕ). sum_by f (take j xs) + f (get_or xs j d) ≤ sum_by f (take (suc n) xs)) (sym same) (omega (arith, whole))
    ]

-- ---- components of a release, in step

pub pair_of : (P : Placed → Component → Type 0) (ps : List Placed) (cs : List Component) (k : ℕ) (p : Placed) → AreAll P ps cs → slice_get ps k ≡ Some p
    → (c : Component) × (slice_get cs k ≡ Some c) × P p c
pair_of P [] cs k p all at = absurd cc
pair_of P (q ∷ ps) [] k p all at = absurd all
pair_of P (q ∷ ps) (d ∷ cs) zero p all at = let same : q ≡ p = cc in (d, refl, subst (λ (x : Placed). P x d) same all.0)
pair_of P (q ∷ ps) (d ∷ cs) (suc k) p all at = pair_of P ps cs k p all.1 at

pub pair_length : (P : Placed → Component → Type 0) (ps : List Placed) (cs : List Component) → AreAll P ps cs → length ps ≡ length cs
pair_length P [] [] all = refl
pair_length P [] (c ∷ cs) all = absurd all
pair_length P (p ∷ ps) [] all = absurd all
pair_length P (p ∷ ps) (c ∷ cs) all = ap suc (pair_length P ps cs all.1)

-- the header of an entry's component fits it
pub header_fits : (e : Entry) (c : Component) → IsPackageOf e c → IsHeaderOf (header_of_component c) e
header_fits e c is = record {
  even = even_passes (length c.code) (length c.init) c.bss is.component.even_code is.component.even_init is.component.even_bss;
  total = sym (length-spelling c) ∙ is.size;
}
  where
    even_passes : (a b n : ℕ) → a % 2 ≡ 0 → b % 2 ≡ 0 → n % 2 ≡ 0 → IsTrue (has_even_lengths (record { component = 0; version = 0; code = a; init = b; bss = n; exports = 0; relocs = 0 }))
    even_passes a b n p q r = rw (p, q, r) refl

-- ---- the installed set of a board

module _ (s : State) (m : SlotManifest) (is : IsSlotManifest m) (here : HasInstalled s (stored_of m)) (headers : List Header) (room : length headers ≡ 16)
    (read : HasTableHeaders (tables_of s.ext) m m.manifest.count headers) where
  abbrev own : List Component
  own = kept_set (tables_of s.ext) s.prog (stored_of m)

  all : AreAll (IsInTable (tables_of s.ext)) (stored_of m).placed own
  all = kept_is_the_set.found (tables_of s.ext) s.prog (stored_of m) here.packages

  count : length own ≡ m.manifest.count
  count = sym (pair_length (IsInTable (tables_of s.ext)) (stored_of m).placed own all) ∙ length-list_of (place_of m) m.manifest.count

  -- component k
  one : (k : ℕ) → k < m.manifest.count → (c : Component) × (slice_get own k ≡ Some c) × IsInTable (tables_of s.ext) (place_of m k) c
  one k lt = pair_of (IsInTable (tables_of s.ext)) (stored_of m).placed own k (place_of m k) all (slice_get-list_of (place_of m) m.manifest.count k lt)

  -- its header
  header_is : (k : ℕ) (c : Component) → k < m.manifest.count → slice_get own k ≡ Some c → get_or headers k no_header ≡ header_of_component c
  header_is k c lt at =
      let x = one k lt in
      let same : x.0 ≡ c = same_Some x.0 c (sym x.1 ∙ at) in
      read k lt ∙ run_tells.header (get_or (tables_of s.ext) (get_or m.slots k 0) []) x.0 x.2.run ∙ ap header_of_component same

  pub headers_fit : AreHeaders m.manifest m.manifest.count headers
  headers_fit k h e lt at_h at_e =
      let x = one k lt in
      let h_is : get_or headers k no_header ≡ h = get_or_from_slice_get headers k h no_header at_h in
      let e_is : get_or m.manifest.entries k no_entry ≡ e = get_or_from_slice_get m.manifest.entries k e no_entry at_e in
      subst (λ (y : Header). IsHeaderOf y e) (sym (header_is k x.0 lt x.1) ∙ h_is) (subst (λ (y : Entry). IsHeaderOf (header_of_component x.0) y) e_is (header_fits (get_or m.manifest.entries k no_entry) x.0 x.2.entry))

  -- its room is what its header says
  abbrev rooms : List Room
  rooms = rooms_of own

  no_room : Room
  no_room = record { code = 0; init = 0; bss = 0 }

  rooms_long : length rooms ≡ m.manifest.count
  rooms_long = length-map own (λ (c : Component). room_of c) ∙ count

  mapped : {X Y : Type 0} (f : X → Y) (xs : List X) (k : ℕ) (x : X) (d : Y) → slice_get xs k ≡ Some x → get_or (map f xs) k d ≡ f x
  mapped f [] k x d at = absurd cc
  mapped f (y ∷ ys) zero x d at = let e : y ≡ x = cc in ap f e
  mapped f (y ∷ ys) (suc k) x d at = mapped f ys k x d at

  code_same : (k : ℕ) → k < m.manifest.count → (get_or headers k no_header).code ≡ (get_or rooms k no_room).code
  code_same k lt = let x = one k lt in ap (λ (h : Header). h.code) (header_is k x.0 lt x.1) ∙ sym (ap (λ (r : Room). r.code) (mapped (λ (c : Component). room_of c) own k x.0 no_room x.1))

  init_same : (k : ℕ) → k < m.manifest.count → (get_or headers k no_header).init ≡ (get_or rooms k no_room).init
  init_same k lt = let x = one k lt in ap (λ (h : Header). h.init) (header_is k x.0 lt x.1) ∙ sym (ap (λ (r : Room). r.init) (mapped (λ (c : Component). room_of c) own k x.0 no_room x.1))

  code_sum : (k : ℕ) → k ≤ m.manifest.count → sum_by (λ (h : Header). h.code) (take k headers) ≡ sum_by (λ (r : Room). r.code) (take k rooms)
  code_sum k le = sum_alike (λ (h : Header). h.code) (λ (r : Room). r.code) headers rooms no_header no_room k (omega (arith, room, is.count)) (omega (arith, rooms_long)) (λ j lt. code_same j (omega arith))

  init_sum : (k : ℕ) → k ≤ m.manifest.count → sum_by (λ (h : Header). h.init) (take k headers) ≡ sum_by (λ (r : Room). r.init) (take k rooms)
  init_sum k le = sum_alike (λ (h : Header). h.init) (λ (r : Room). r.init) headers rooms no_header no_room k (omega (arith, room, is.count)) (omega (arith, rooms_long)) (λ j lt. init_same j (omega arith))

  all_rooms : take m.manifest.count rooms ≡ rooms
  all_rooms = take_all m.manifest.count rooms (omega (arith, rooms_long))

  code_all : sum_by (λ (h : Header). h.code) (take m.manifest.count headers) ≡ code_total rooms
  code_all = code_sum m.manifest.count (omega arith) ∙ ap (sum_by (λ (r : Room). r.code)) all_rooms

  pub fits_flash : FitsFlash m.manifest.count headers
  fits_flash =
      let room = (room_from_cause rooms (no_cause own here.pages.is.possible).room).flash in
      let init : sum_by (λ (h : Header). h.init) (take m.manifest.count headers) ≡ init_total rooms = init_sum m.manifest.count (omega arith) ∙ ap (sum_by (λ (r : Room). r.init)) all_rooms in
      omega (arith, room, code_all, init)

  -- the set that is answered is held
  pub rest_held : (x : StoredSet) → IsAtRest m headers x → HoldsSet s x own
  rest_held x rests = record {
    count = count ∙ sym (ap (λ (y : SlotManifest). y.manifest.count) rests.slots);
    each = λ k c at. each k c (below k c at) at;
  }
    where
      below : (k : ℕ) (c : Component) → slice_get own k ≡ Some c → k < m.manifest.count
      below k c at = omega (arith, count, slice_get_within own k c at)

      each : (k : ℕ) (c : Component) → k < m.manifest.count → slice_get own k ≡ Some c → IsComponentOf s x k c
      each k c lt at =
          let place : installed (place_of m k) ≡ place_of x.slots k =
          sym (ap (λ (f : Bool). record (place_of m k) { fresh = f }) (no_mark 16 k)) ∙ sym (ap (λ (y : SlotManifest). place_of y k) rests.slots) in
          let code : code_base rooms k ≡ get_or x.code_at k 0 = sym (rests.code k lt ∙ code_sum k (omega arith)) in
          let init : load_base rooms k ≡ get_or x.init_at k 0 = sym (rests.init k lt ∙ ap₂ (λ (a b : ℕ). a + b) code_all (init_sum k (omega arith))) in
          let readable = installed_is_readable s.prog (tables_of s.ext) (inbox_of s.ext) (stored_of m) k (place_of m k) c here.packages here.pages (slice_get-list_of (place_of m) m.manifest.count k lt) at in
          record {
            readable = subst (λ (p : Placed). IsReadable s.prog (tables_of s.ext) (inbox_of s.ext) p (get_or x.code_at k 0) (get_or x.init_at k 0) c) place
                (subst (λ (a : ℕ). IsReadable s.prog (tables_of s.ext) (inbox_of s.ext) (installed (place_of m k)) a (get_or x.init_at k 0) c) code
                (subst (λ (b : ℕ). IsReadable s.prog (tables_of s.ext) (inbox_of s.ext) (installed (place_of m k)) (code_base rooms k) b c) init readable));
            header = ap (λ (l : List Header). get_or l k no_header) rests.headers_are ∙ header_is k c lt at;
          }

-- ---- entries of a manifest

-- entry k's slot is below 16
pub slot_low : (m : SlotManifest) (k : ℕ) → IsSlotManifest m → k < m.manifest.count → get_or m.slots k 0 < 16
slot_low m k is lt = all_at (λ (p : Placed). p.slot < 16) (stored_of m).placed k (place_of m k) is.stored.slots (slice_get-list_of (place_of m) m.manifest.count k lt)

-- and it is a manifest's entry
pub entry_good : (m : SlotManifest) (k : ℕ) → IsSlotManifest m → k < m.manifest.count → IsManifestEntry (get_or m.manifest.entries k no_entry)
entry_good m k is lt = all_at (λ (p : Placed). IsManifestEntry p.entry) (stored_of m).placed k (place_of m k) is.stored.entries (slice_get-list_of (place_of m) m.manifest.count k lt)

-- what holds of places below one and of it, where an element is set there
pub set_next : {X : Type 0} (P : ℕ → X → Type 0) (xs : List X) (k : ℕ) (x d : X) → k < length xs → ((j : ℕ) → j < k → P j (get_or xs j d)) → P k x
    → (j : ℕ) → j < k + 1 → P j (get_or (set xs k x) j d)
set_next {X} P xs k x d within before here j lt =
    elim (cases_lt j k) [
      | inl below ↦ let other : j ≢ k = omega arith in subst (P j) (sym (get_or-set_other xs k j x d other)) (before j below)
      | inr not_below ↦
          let same : k ≡ j = omega arith in
          subst (λ (i : ℕ). P i (get_or (set xs k x) i d)) same (subst (P k) (sym (get_or-set_same xs k x d within)) here)
    ]

-- ---- sound boards

-- The chosen release of a sound board with no open Go gate is installed.
pub sound_installed : (s : State) (m : StoredRelease) → IsSound (parts_of s.prog s.ext) → is_pending (parts_of s.prog s.ext) ≡ false → Stores (chosen_side (parts_of s.prog s.ext)) m
    → HasInstalled s m
unfolding IsInstalled
sound_installed s m sound none stores =
    let there = (sound.rest none).installed in
    let same : there.0 ≡ m = release_one (chosen_side (parts_of s.prog s.ext)) there.0 m there.1 stores in
    subst (HasInstalled s) same (record { packages = there.2; pages = there.3 })
