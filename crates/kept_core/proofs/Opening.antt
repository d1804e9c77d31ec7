-- The set that comes in, opened over the installed one.
use Rattle.std.proofs.Common.{◌≡◌, ℕ, ◌<◌, ◌≤◌, Bool, true, false, cond, inl, inr, List, [], ◌∷◌, length, map, get_or, Option, Some, None, is_some, refl, sym, ap, ap₂, ◌∙◌, subst, arith}
use Rattle.std.specs.Prelude.{find, not, unwrap_or, ◌++◌}
use Rattle.std.specs.List.{AllByRecursion, zip}
use Rattle.std.specs.Option.{option_map}
use Rattle.std.proofs.lemmas.Bool.{cases_Bool}
use Rattle.std.proofs.lemmas.List.Concat.{flat_map-cons}
use Rattle.avr_reloc.specs.Field.{AreBytes}
use Rattle.flash_pages.specs.State.{State, IsState}
use Rattle.component_package.specs.declared.manifest.Entry.{Entry}
use Rattle.component_package.specs.packages.Component.{Component}
use Rattle.component_package.specs.packages.Reading.{component_of}
use Rattle.component_package.specs.packages.Manifest.{Release, IsManifestEntry}
use Rattle.component_package.specs.mote.Store.{SetFault as Fault, is_same_entry}
use Rattle.kept_definitions.specs.Stored.{Placed, StoredRelease, IsStored, Stores}
use Rattle.kept_definitions.specs.Kept.{inbox_of, tables_of, held_component, package_in, coming_component, coming_set, HasComing, set_fault, held_slot, slot_list, held_slots, least_free, place, placed_from, slots_for}
use Rattle.kept_definitions.specs.Sides.{chosen_side, is_pending, kept_set, going_set}
use Rattle.kept_definitions.specs.Machine.{Mote}
use Rattle.kept_laws.specs.Laws.{AreAll, IsPackageOf, IsOver}
use Rattle.kept_laws.specs.Held.{installed}
use Rattle.kept_laws.specs.Invariant.{IsMote, ComesNext}
use Rattle.kept_laws.proofs.Slots.{slots_are_found}
use Rattle.kept_laws.proofs.Store.{coming_is_faultless}
use Rattle.kept_laws.proofs.Words.{all_over}
use Rattle.kept_manifests.specs.declared.pages.SlotManifest.{SlotManifest}
use Rattle.kept_manifests.specs.Slots.{stored_of}
use Rattle.kept_store.specs.declared.set.StoredSet.{StoredSet}
use Rattle.kept_store.specs.Sets.{HoldsSet, HasInstalled, IsSlotFor, at_rest, chosen_of}
use Rattle.kept_store.proofs.RestLemmas.{sound_installed}
use Rattle.kept_journal.specs.Steps.{parts}
use Rattle.kept_core.specs.Links.{Opens, IsLinking}
use Rattle.kept_core.proofs.Below.{mote_is}

-- ---- a release with no fresh entry has the same slots and the same components

abbrev slot_by : Entry → List Placed → Option ℕ
slot_by e ps = option_map (λ p. p.slot) (find (λ p. is_same_entry p.entry e) ps)

rest_slot : (e : Entry) (ps : List Placed) → slot_by e (map installed ps) ≡ slot_by e ps
rest_slot e [] = refl
rest_slot e (p ∷ ps) =
    elim (cases_Bool (is_same_entry p.entry e)) [
      | inl same ↦ rw same refl
      | inr other ↦ rw other (rest_slot e ps)
    ]

abbrev component_by : Entry → List Placed → List Component → Option Component
component_by e ps cs = option_map (λ x. x.1) (find (λ x. is_same_entry x.0.entry e) (zip ps cs))

rest_component : (e : Entry) (ps : List Placed) (cs : List Component) → component_by e (map installed ps) cs ≡ component_by e ps cs
rest_component e [] cs = refl
rest_component e (p ∷ ps) [] = refl
rest_component e (p ∷ ps) (c ∷ cs) =
    elim (cases_Bool (is_same_entry p.entry e)) [
      | inl same ↦ rw same refl
      | inr other ↦ rw other (rest_component e ps cs)
    ]

module _ (m : StoredRelease) where
  same_slot : (e : Entry) → held_slot (at_rest m) e ≡ held_slot m e
  same_slot e = rest_slot e m.placed

  same_slots : (es : List Entry) → held_slots (at_rest m) es ≡ held_slots m es
  same_slots [] = refl
  same_slots (e ∷ es) =
      flat_map-cons (λ x. slot_list (held_slot (at_rest m) x)) e es
      ∙ ap₂ (λ (o : Option ℕ) (l : List ℕ). slot_list o ++ l) (same_slot e) (same_slots es)
      ∙ sym (flat_map-cons (λ x. slot_list (held_slot m x)) e es)

  same_place : (taken : List ℕ) (e : Entry) → place (at_rest m) taken e ≡ place m taken e
  same_place taken e = ap (λ (o : Option ℕ). let p : Placed = record { entry = e; slot = unwrap_or o (least_free taken); fresh = not (is_some o) } in p) (same_slot e)

  same_placed : (taken : List ℕ) (es : List Entry) → placed_from (at_rest m) taken es ≡ placed_from m taken es
  same_placed taken [] = refl
  same_placed taken (e ∷ es) =
      ap (λ (p : Placed). p ∷ placed_from (at_rest m) (cond p.fresh (p.slot ∷ taken) taken) es) (same_place taken e)
      ∙ ap (λ (ps : List Placed). place m taken e ∷ ps) (same_placed (cond (place m taken e).fresh ((place m taken e).slot ∷ taken) taken) es)

  pub same_slots_for : (r : Release) → slots_for (at_rest m) r ≡ slots_for m r
  same_slots_for r =
      ap (λ (ps : List Placed). let x : StoredRelease = record { number = r.number; placed = ps } in x)
      (ap (λ (l : List ℕ). placed_from (at_rest m) l r.entries) (same_slots r.entries) ∙ same_placed (held_slots m r.entries) r.entries)

map_alike : {X Y : Type 0} (f g : X → Y) → ((x : X) → f x ≡ g x) → (xs : List X) → map f xs ≡ map g xs
map_alike f g same [] = refl
map_alike {X} {Y} f g same (x ∷ xs) = ap₂ (λ (y : Y) (ys : List Y). y ∷ ys) (same x) (map_alike f g same xs)

pub same_coming : (m next : StoredRelease) (set : List Component) (inbox : List (List ℕ))
    → coming_set (record { release = at_rest m; set = set }) inbox next ≡ coming_set (record { release = m; set = set }) inbox next
unfolding coming_set
same_coming m next set inbox = map_alike (coming_component (record { release = at_rest m; set = set }) inbox) (coming_component (record { release = m; set = set }) inbox) same next.placed
  where
    same : (p : Placed) → coming_component (record { release = at_rest m; set = set }) inbox p ≡ coming_component (record { release = m; set = set }) inbox p
    same p = ap (λ (o : Option Component). cond p.fresh (component_of (package_in inbox p)) (unwrap_or o (component_of []))) (rest_component p.entry m.placed set)

-- ---- there is an incoming set where nothing is missing and no package is bad

held_there : (e : Entry) (s : ℕ) (ps : List Placed) (cs : List Component) → AreAll (λ p x. IsPackageOf p.entry x) ps cs → slot_by e ps ≡ Some s → is_some (component_by e ps cs) ≡ true
held_there e s [] [] all here = absurd cc
held_there e s [] (c ∷ cs) all here = absurd all
held_there e s (p ∷ ps) [] all here = absurd all
held_there e s (p ∷ ps) (c ∷ cs) all here =
    elim (cases_Bool (is_same_entry p.entry e)) [
      | inl same ↦ rw same refl
      | inr other ↦ rw other (held_there e s ps cs all.1 (rw other at here))
    ]

module _ (t : Mote) (mote : IsMote t) where
  rooms : (ps : List Placed) → AllByRecursion (λ p. IsManifestEntry p.entry) ps → AllByRecursion (λ p. p.slot < 16) ps
      → AllByRecursion (λ p. (p.entry.length ≤ length (get_or t.inbox p.slot [])) × AreBytes (get_or t.inbox p.slot [])) ps
  rooms [] entries low = tt
  rooms (p ∷ ps) entries low = (((let size = mote.sizes p.slot low.0 in omega (arith, size, entries.0.most)), mote.bytes p.slot), rooms ps entries.1 low.1)

  helds : (ps : List Placed) → AllByRecursion (IsOver t.current.release) ps → AllByRecursion (λ p. p.fresh ≡ false → is_some (held_component t.current p.entry) ≡ true) ps
  helds [] over = tt
  helds (p ∷ ps) over = ((λ held. held_there p.entry p.slot t.current.release.placed t.current.set mote.set (over.0 held)), helds ps over.1)

  pub comes_there : (m : StoredRelease) → t.incoming ≡ Some m → set_fault t.inbox m ≡ None → HasComing t.current t.inbox m
  comes_there m coming whole =
      let next : ComesNext t.current.release (Some m) = subst (ComesNext t.current.release) coming mote.incoming in
      let stored : IsStored m = subst IsStored (sym next.3) (slots_are_found.stored t.current.release next.0 mote.current next.1) in
      let over : AllByRecursion (IsOver t.current.release) m.placed =
      subst (λ (n : StoredRelease). AllByRecursion (IsOver t.current.release) n.placed) (sym next.3) (all_over t.current.release next.0) in
      coming_is_faultless.whole t.current t.inbox m (rooms m.placed stored.entries stored.slots) (helds m.placed over) whole

-- ---- what was opened

module _ (s : State) (t : Mote) (m n : SlotManifest) (sizes : IsState s) (opens : Opens t m n s) where
  rests : is_pending (parts s) ≡ false
  rests = sym opens.stands.mote.standing ∙ opens.rests

  stores : Stores (chosen_side (parts s)) (stored_of m)
  stores = subst (Stores (chosen_side (parts s))) (sym opens.current) opens.stands.mote.current.release

  -- the current release is installed
  pub installed_is : HasInstalled s (stored_of m)
  installed_is = sound_installed s (stored_of m) opens.stands.sound rests stores

  set_is : kept_set (tables_of s.ext) s.prog (stored_of m) ≡ t.current.set
  set_is =
      ap (kept_set (tables_of s.ext) s.prog) opens.current
      ∙ sym (ap (λ (b : Bool). cond b (going_set (parts s).tables (parts s).inbox (parts s).staged t.current.release) (kept_set (parts s).tables (parts s).prog t.current.release)) rests)
      ∙ opens.stands.mote.current.set

  mote : IsMote t
  mote = mote_is s t sizes opens.stands

  inbox_same : inbox_of s.ext ≡ t.inbox
  inbox_same = sym opens.stands.mote.inbox

  module _ (c : StoredSet) (release : stored_of c.slots ≡ at_rest (stored_of m)) where
    -- what comes in has the slots that it gets over the current set
    pub slot_for_is : IsSlotFor c.slots n
    slot_for_is =
        let next : ComesNext t.current.release (Some (stored_of n)) = subst (ComesNext t.current.release) opens.incoming mote.incoming in
        record {
          release = next.0;
          is = next.1;
          slots =
              next.3 ∙ ap (λ (x : StoredRelease). slots_for x next.0) (sym opens.current) ∙ sym (same_slots_for (stored_of m) next.0)
              ∙ ap (λ (x : StoredRelease). slots_for x next.0) (sym release);
        }

    coming_is : coming_set (chosen_of c (kept_set (tables_of s.ext) s.prog (stored_of m))) (inbox_of s.ext) (stored_of n) ≡ coming_set t.current t.inbox (stored_of n)
    coming_is =
        ap₂ (λ (x : StoredRelease) (set : List Component). coming_set (record { release = x; set = set }) (inbox_of s.ext) (stored_of n)) release set_is
        ∙ same_coming (stored_of m) (stored_of n) t.current.set (inbox_of s.ext)
        ∙ ap₂ (λ (x : StoredRelease) (inbox : List (List ℕ)). coming_set (record { release = x; set = t.current.set }) inbox (stored_of n)) opens.current inbox_same

    -- LINK goes on with it
    pub linking_is : (x : StoredSet) → x.slots ≡ n → set_fault (inbox_of s.ext) (stored_of n) ≡ None
        → HoldsSet s x (coming_set (chosen_of c (kept_set (tables_of s.ext) s.prog (stored_of m))) (inbox_of s.ext) (stored_of n)) → IsLinking t x s
    linking_is x slots whole held = record {
      stands = opens.stands;
      rests = opens.rests;
      incoming = opens.incoming ∙ ap (λ (k : SlotManifest). Some (stored_of k)) (sym slots);
      unlinked = opens.unlinked;
      there = subst (λ (k : SlotManifest). HasComing t.current t.inbox (stored_of k)) (sym slots)
          (comes_there t mote (stored_of n) opens.incoming (ap (λ (l : List (List ℕ)). set_fault l (stored_of n)) (sym inbox_same) ∙ whole));
      held = subst (HoldsSet s x) (coming_is ∙ ap (λ (k : SlotManifest). coming_set t.current t.inbox (stored_of k)) (sym slots)) held;
    }

  pub fault_is : (o : Option Fault) → set_fault (inbox_of s.ext) (stored_of n) ≡ o → set_fault t.inbox (stored_of n) ≡ o
  fault_is o is = ap (λ (l : List (List ℕ)). set_fault l (stored_of n)) (sym inbox_same) ∙ is
