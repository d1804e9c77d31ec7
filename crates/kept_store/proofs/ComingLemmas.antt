-- The incoming set that was opened is held by the board.
use Rattle.std.proofs.Common.{◌≡◌, inl, inr, ℕ, zero, suc, ◌+◌, ◌*◌, ◌<◌, ◌≤◌, Bool, true, false, cond, Option, Some, None, List, [], ◌∷◌, ◌++◌, length, take, drop, get_or, map, refl, sym, ap, subst, ◌∙◌, arith, take-append-drop}
use Rattle.std.specs.Prelude.{slice_get, is_some, unwrap_or, find}
use Rattle.std.specs.List.{zip, concat}
use Rattle.std.specs.Option.{option_map}
use Rattle.std.proofs.lemmas.Bool.{cases_Bool, false≢true}
use Rattle.std.proofs.lemmas.List.{length-map}
use Rattle.std.proofs.lemmas.List.Elements.{All-take, All-drop}
use Rattle.std.proofs.lemmas.Option.{slice_get_within}
use Rattle.avr_reloc.specs.Field.{AreBytes}
use Rattle.flash_pages.specs.State.{State, IsState}
use Rattle.component_package.specs.declared.manifest.Entry.{Entry}
use Rattle.component_package.specs.packages.Component.{Component, spelling}
use Rattle.component_package.specs.packages.Reading.{header_of, component_of}
use Rattle.component_package.specs.mote.Store.{is_same_entry, slot_at}
use Rattle.component_package.proofs.Lists.{length-list_of, all_of_list, all_at}
use Rattle.component_package.proofs.ManifestLemmas.{element_at}
use Rattle.component_package.proofs.ReadAgain.{header_again}
use Rattle.component_package.proofs.StoredLemmas.{bytes_joined}
use Rattle.component_store.proofs.HeldLemmas.{length-slot}
use Rattle.component_store.proofs.SlotLemmas.{find_at}
use Rattle.kept_definitions.specs.Runs.{run_of, part_from}
use Rattle.kept_definitions.specs.Stored.{Placed}
use Rattle.kept_definitions.specs.Kept.{Chosen, HoldsPackage, IsComing, HasComing, inbox_of, tables_of, package_in, held_component, coming_component, coming_set, set_fault}
use Rattle.kept_laws.specs.Laws.{Begins}
use Rattle.kept_laws.specs.Held.{IsReadable}
use Rattle.kept_laws.proofs.Sets.{is_package, said, package_same}
use Rattle.kept_laws.proofs.Store.{coming_is_faultless}
use Rattle.kept_manifests.specs.declared.pages.SlotManifest.{SlotManifest}
use Rattle.kept_manifests.specs.Slots.{IsSlotManifest, place_of, stored_of}
use Rattle.kept_store.specs.declared.set.StoredSet.{StoredSet}
use Rattle.kept_store.specs.Sets.{IsComponentOf, HoldsSet, IsSlotFor, chosen_of}
use Rattle.kept_store.specs.Open.{IsFoundAt, IsHeldPart, IsPart, part_of_set}
use Rattle.kept_store.proofs.SlotBytes.{inbox_is}
use Rattle.kept_store.proofs.RestLemmas.{slot_low, entry_good}
use Rattle.kept_store.proofs.OpenLemmas.{entry_here, held_slot_is}

-- ---- pairs

zip_at : {X Y : Type 0} (xs : List X) (ys : List Y) (k : ℕ) (x : X) (y : Y) → slice_get xs k ≡ Some x → slice_get ys k ≡ Some y → slice_get (zip xs ys) k ≡ Some (x, y)
zip_at [] ys k x y at_x at_y = absurd cc
zip_at (z ∷ xs) [] k x y at_x at_y = absurd cc
zip_at (z ∷ xs) (w ∷ ys) zero x y at_x at_y = let p : z ≡ x = cc in let q : w ≡ y = cc in cc
zip_at (z ∷ xs) (w ∷ ys) (suc k) x y at_x at_y = zip_at xs ys k x y at_x at_y

-- none among the first pairs passes a test of their first halves where none of those does
none_zipped : {X Y : Type 0} (p : X → Bool) (xs : List X) (ys : List Y) (k : ℕ) → find p (take k xs) ≡ None → find {X = X × Y} (λ z. p z.0) (take k (zip xs ys)) ≡ None
none_zipped p xs ys zero none = refl
none_zipped p [] ys (suc k) none = refl
none_zipped p (x ∷ xs) [] (suc k) none = refl
none_zipped {X} {Y} p (x ∷ xs) (y ∷ ys) (suc k) none =
    elim (cases_Bool (p x)) [
      | inl passes ↦ let bad : Some x ≡ None = rw passes at none in absurd cc
      | inr fails ↦ rw fails (none_zipped p xs ys k (rw fails at none))
    ]

-- the component of a found entry
pub found_component : (current : StoredSet) (components : List Component) (e : Entry) (j : ℕ) (c : Component) → IsFoundAt current.slots e j → slice_get components j ≡ Some c
    → held_component (chosen_of current components) e ≡ Some c
found_component current components e j c found at =
    let ps = (stored_of current.slots).placed in
    let first = none_zipped (λ (p : Placed). is_same_entry p.entry e) ps components j found.first in
    let here = zip_at ps components j (place_of current.slots j) c (entry_here current.slots j found.low) at in
    ap (option_map (λ (x : Placed × Component). x.1)) (find_at (λ (x : Placed × Component). is_same_entry x.0.entry e) (zip ps components) j (place_of current.slots j, c) first here found.same)

-- ---- inbox slots

slot_bytes : (s : State) → IsState s → (slot : ℕ) → AreBytes (slot_at s.ext slot)
slot_bytes s is slot =
    bytes_joined (take 39 (drop (786 + 39 * slot) s.ext)) (All-take AreBytes 39 (drop (786 + 39 * slot) s.ext) (All-drop AreBytes (786 + 39 * slot) s.ext (λ k d lt. (is.ext_pages k d lt).1)))

-- an element of a list that was mapped
map_back : {X Y : Type 0} (f : X → Y) (xs : List X) (k : ℕ) (x : X) (y : Y) → slice_get xs k ≡ Some x → slice_get (map f xs) k ≡ Some y → f x ≡ y
map_back f [] k x y at_x at_y = absurd cc
map_back f (z ∷ xs) zero x y at_x at_y = let e : z ≡ x = cc in let d : f z ≡ y = cc in ap f (sym e) ∙ d
map_back f (z ∷ xs) (suc k) x y at_x at_y = map_back f xs k x y at_x at_y

-- ---- the set that was opened

module _ (s : State) (sizes : IsState s) (m : SlotManifest) (is : IsSlotManifest m) (current : StoredSet) (over : IsSlotFor current.slots m) (components : List Component)
    (holds : HoldsSet s current components) (x : StoredSet) (slots : x.slots ≡ m) (parts : (k : ℕ) → k < m.manifest.count → IsPart (inbox_of s.ext) m current k (part_of_set x k))
    (whole : set_fault (inbox_of s.ext) (stored_of m) ≡ None) where
  inbox : List (List ℕ)
  inbox = inbox_of s.ext

  abbrev now : Chosen
  now = chosen_of current components

  -- the component of the current set that an entry has which isn't fresh
  held_here : (k : ℕ) → k < m.manifest.count → (place_of m k).fresh ≡ false
      → (j : ℕ) × (c : Component) × IsFoundAt current.slots (place_of m k).entry j × (slice_get components j ≡ Some c) × IsHeldPart current (place_of m k).entry (part_of_set x k)
  held_here k lt rests =
      let part = (parts k lt).held rests in
      let count = holds.count in
      let low = part.found.low in
      let c = element_at components part.at (omega arith) in
      (part.at, c.0, part.found, c.1, part)

  -- there is a set that comes
  comes : HasComing now (inbox_of s.ext) (stored_of m)
  comes =
      coming_is_faultless.whole now (inbox_of s.ext) (stored_of m)
      (all_of_list (λ (p : Placed). (p.entry.length ≤ length (get_or (inbox_of s.ext) p.slot [])) × AreBytes (get_or (inbox_of s.ext) p.slot [])) (place_of m) m.manifest.count room)
      (all_of_list (λ (p : Placed). p.fresh ≡ false → is_some (held_component now p.entry) ≡ true) (place_of m) m.manifest.count held)
      whole
    where
      room : (k : ℕ) → k < m.manifest.count → ((place_of m k).entry.length ≤ length (get_or (inbox_of s.ext) (place_of m k).slot [])) × AreBytes (get_or (inbox_of s.ext) (place_of m k).slot [])
      room k lt =
          let low : get_or m.slots k 0 < 16 = slot_low m k is lt in
          let most = (entry_good m k is lt).most in
          let slot : get_or (inbox_of s.ext) (get_or m.slots k 0) [] ≡ slot_at s.ext (get_or m.slots k 0) = inbox_is s.ext (get_or m.slots k 0) low in
          let size : length (get_or (inbox_of s.ext) (get_or m.slots k 0) []) ≡ 9984 = ap length slot ∙ length-slot s sizes (get_or m.slots k 0) (omega arith) in
          (omega arith, subst AreBytes (sym slot) (slot_bytes s sizes (get_or m.slots k 0)))

      held : (k : ℕ) → k < m.manifest.count → (place_of m k).fresh ≡ false → is_some (held_component now (place_of m k).entry) ≡ true
      held k lt rests = let h = held_here k lt rests in ap is_some (found_component current components (place_of m k).entry h.0 h.1 h.2 h.3)

  -- entry k comes
  coming_here : (k : ℕ) → k < m.manifest.count → IsComing now (inbox_of s.ext) (place_of m k)
  coming_here k lt = all_at (IsComing now (inbox_of s.ext)) (stored_of m).placed k (place_of m k) comes (entry_here m k lt)

  -- a fresh component
  fresh_one : (k : ℕ) → k < m.manifest.count → (place_of m k).fresh ≡ true → IsComponentOf s x k (coming_component now (inbox_of s.ext) (place_of m k))
  fresh_one k lt fresh =
      let p : Placed = place_of m k in
      let b : List ℕ = package_in (inbox_of s.ext) p in
      let slot : List ℕ = get_or (inbox_of s.ext) p.slot [] in
      let h : HoldsPackage p.entry b = (coming_here k lt).came fresh in
      let c : Component = h.component in
      let same : c ≡ coming_component now (inbox_of s.ext) p =
      sym (ap (λ (f : Bool). cond f (component_of b) (unwrap_or (held_component now p.entry) (component_of []))) fresh ∙ said p.entry b h) in
      let place : p ≡ place_of x.slots k = ap (λ (y : SlotManifest). place_of y k) (sym slots) in
      let begins : Begins slot (spelling c) = record { rest = drop p.entry.length slot; is = sym (take-append-drop p.entry.length slot) ∙ ap (λ (l : List ℕ). l ++ drop p.entry.length slot) h.spelled.bytes } in
      let readable : IsReadable s.prog (tables_of s.ext) (inbox_of s.ext) p (get_or x.code_at k 0) (get_or x.init_at k 0) c = record {
        entry = is_package p.entry b h;
        came = λ is_fresh. begins;
        run = λ rests. absurd (false≢true (sym rests ∙ fresh));
        code = λ rests. absurd (false≢true (sym rests ∙ fresh));
        init = λ rests. absurd (false≢true (sym rests ∙ fresh));
      } in
      subst (IsComponentOf s x k) same (record {
        readable = subst (λ (q : Placed). IsReadable s.prog (tables_of s.ext) (inbox_of s.ext) q (get_or x.code_at k 0) (get_or x.init_at k 0) c) place readable;
        header = (parts k lt).came fresh ∙ ap header_of h.spelled.bytes ∙ header_again c;
      })

  -- a component that is installed
  held_one : (k : ℕ) → k < m.manifest.count → (place_of m k).fresh ≡ false → IsComponentOf s x k (coming_component now (inbox_of s.ext) (place_of m k))
  unfolding held_here
  held_one k lt rests =
      let p : Placed = place_of m k in
      let h = held_here k lt rests in
      let j : ℕ = h.0 in
      let c : Component = h.1 in
      let q : Placed = place_of current.slots j in
      let own : IsComponentOf s current j c = holds.each j c h.3 in
      let part = h.4 in
      let found = found_component current components p.entry j c h.2 h.3 in
      let same : c ≡ coming_component now (inbox_of s.ext) p =
      sym (ap (λ (f : Bool). cond f (component_of (package_in (inbox_of s.ext) p)) (unwrap_or (held_component now p.entry) (component_of []))) rests ∙ ap (λ (o : Option Component). unwrap_or o (component_of [])) found) in
      let place : p ≡ place_of x.slots k = ap (λ (y : SlotManifest). place_of y k) (sym slots) in
      let slot : q.slot ≡ p.slot = sym (held_slot_is current.slots m k j over lt h.2) in
      let code : get_or current.code_at j 0 ≡ get_or x.code_at k 0 = sym (ap (λ y. y.code_at) part.is) in
      let init : get_or current.init_at j 0 ≡ get_or x.init_at k 0 = sym (ap (λ y. y.init_at) part.is) in
      let readable : IsReadable s.prog (tables_of s.ext) (inbox_of s.ext) p (get_or x.code_at k 0) (get_or x.init_at k 0) c = record {
        entry = package_same q.entry p.entry c h.2.same own.readable.entry;
        came = λ is_fresh. absurd (false≢true (sym rests ∙ is_fresh));
        run = λ _. subst (λ (n : ℕ). Begins (get_or (tables_of s.ext) n []) (run_of c)) slot (own.readable.run part.rests);
        code = λ _. subst (λ (n : ℕ). part_from (concat s.prog) n (length c.code) false c.relocs ≡ c.code) code (own.readable.code part.rests);
        init = λ _. subst (λ (n : ℕ). part_from (concat s.prog) n (length c.init) true c.relocs ≡ c.init) init (own.readable.init part.rests);
      } in
      subst (IsComponentOf s x k) same (record {
        readable = subst (λ (r : Placed). IsReadable s.prog (tables_of s.ext) (inbox_of s.ext) r (get_or x.code_at k 0) (get_or x.init_at k 0) c) place readable;
        header = ap (λ y. y.header) part.is ∙ own.header;
      })

  -- the set that comes is held
  pub coming_held : HoldsSet s x (coming_set now (inbox_of s.ext) (stored_of m))
  unfolding coming_set
  coming_held = record {
    count = length-map (stored_of m).placed (coming_component now (inbox_of s.ext)) ∙ length-list_of (place_of m) m.manifest.count ∙ sym (ap (λ (y : SlotManifest). y.manifest.count) slots);
    each = λ k c at.
        let lt : k < m.manifest.count = omega (arith, slice_get_within (map (coming_component now (inbox_of s.ext)) (stored_of m).placed) k c at, length-map (stored_of m).placed (coming_component now (inbox_of s.ext)), length-list_of (place_of m) m.manifest.count) in
        subst (IsComponentOf s x k) (map_back (coming_component now (inbox_of s.ext)) (stored_of m).placed k (place_of m k) c (entry_here m k lt) at)
        (elim (cases_Bool (place_of m k).fresh) [ inl fresh ↦ fresh_one k lt fresh | inr rests ↦ held_one k lt rests ]);
  }
