-- What is missing or bad, entry by entry, and what is said of each entry.
use Rattle.std.proofs.Common.{◌≡◌, ◌≢◌, inl, inr, ℕ, ◌+◌, ◌<◌, ◌≤◌, Bool, true, false, cond, eqb, Option, Some, None, Err, List, length, take, get_or, set, refl, sym, ap, ap₂, subst, ◌∙◌, arith}
use Rattle.std.specs.Prelude.{slice_get, not, IsTrue, ◌↔◌, ◌&&◌}
use Rattle.std.specs.Option.{option_or, option_map, option_and_then}
use Rattle.std.proofs.lemmas.Bool.{cases_lt, and_parts, eqb-true}
use Rattle.std.proofs.lemmas.List.{get_or-set_other, get_or-set_same}
use Rattle.std.proofs.lemmas.Option.{slice_get-get_or}
use Rattle.sha2.specs.Sha256.{sha256}
use Rattle.flash_pages.specs.State.{State}
use Rattle.component_package.specs.declared.manifest.Entry.{Entry}
use Rattle.component_package.specs.declared.part.Header.{Header}
use Rattle.component_package.specs.declared.fault.PackageFault.{PackageFault}
use Rattle.component_package.specs.packages.Reading.{first_fault, package_fault, number_of_fault, header_of}
use Rattle.component_package.specs.mote.Store.{is_same, is_same_entry, stored_fault, SetFault, Missing, BadPackage}
use Rattle.component_package.proofs.First.{first_fault-at}
use Rattle.component_package.proofs.Lists.{length-list_of, slice_get-list_of}
use Rattle.component_store.specs.declared.set.StoreFault.TheVariants.{Package, Identity}
use Rattle.component_store.specs.declared.set.StoreFault.{StoreFault}
use Rattle.component_store.specs.declared.set.SetFault as sets
use Rattle.component_store.specs.declared.set.SetFault.TheVariants as set_faults
use Rattle.component_store.specs.Reader.{held_bytes}
use Rattle.component_store.specs.Packages.{is_of, package_answer}
use Rattle.component_store.specs.Sets.{IsHeaderOf, number_of_stored_fault, is_set_fault, SetFaultIs}
use Rattle.component_store.proofs.SlotLemmas.{decides, find_at}
use Rattle.kept_definitions.specs.Stored.{Placed}
use Rattle.kept_definitions.specs.Kept.{inbox_of, package_in, is_missing, missing_at, bad_package_at, set_fault, held_slot, slots_for}
use Rattle.kept_laws.proofs.Slots.{slots_are_found}
use Rattle.kept_manifests.specs.declared.pages.SlotManifest.{SlotManifest}
use Rattle.kept_manifests.specs.Slots.{no_entry, place_of, stored_of}
use Rattle.kept_store.specs.declared.set.StoredSet.{StoredSet}
use Rattle.kept_store.specs.declared.open.Part.{Part}
use Rattle.kept_store.specs.Sets.{IsSet, IsSlotFor, no_header}
use Rattle.kept_store.specs.Open.{IsFoundAt, IsHeldPart, FitsPlace, part_in}
use Rattle.kept_store.proofs.SlotBytes.{inbox_is}

-- entry k of a stored manifest
pub entry_here : (m : SlotManifest) (k : ℕ) → k < m.manifest.count → slice_get (stored_of m).placed k ≡ Some (place_of m k)
entry_here m k lt = slice_get-list_of (place_of m) m.manifest.count k lt

-- the bytes where a fresh entry's package is to be
pub package_is : (s : State) (p : Placed) → p.slot < 16 → package_in (inbox_of s.ext) p ≡ held_bytes s p.slot p.entry.length
package_is s p low = ap (take p.entry.length) (inbox_is s.ext p.slot low)

-- ---- what is missing

-- a fresh entry is missing where the check of its digest says no
pub missing_is : (s : State) (p : Placed) (b : Bool) → p.slot < 16 → p.fresh ≡ true → IsTrue b ↔ (sha256 (held_bytes s p.slot p.entry.length) ≡ p.entry.digest)
    → is_missing (inbox_of s.ext) p ≡ not b
missing_is s p b low fresh test =
    let same : is_same (sha256 (package_in (inbox_of s.ext) p)) p.entry.digest ≡ b =
    ap (λ (l : List ℕ). is_same (sha256 l) p.entry.digest) (package_is s p low) ∙ sym (decides b (sha256 (held_bytes s p.slot p.entry.length)) p.entry.digest test) in
    ap₂ (λ (f t : Bool). f && not t) fresh same

-- entry k is missing as is said of its place
pub missing_here : (inbox : List (List ℕ)) (m : SlotManifest) (k : ℕ) (b : Bool) → k < m.manifest.count → is_missing inbox (place_of m k) ≡ not b
    → missing_at inbox (stored_of m) k ≡ cond (not b) (Some (Missing k)) None
missing_here inbox m k b lt is =
    ap (option_and_then (λ (p : Placed). cond (is_missing inbox p) (Some (Missing k)) None)) (entry_here m k lt) ∙ ap (λ (t : Bool). cond t (Some (Missing k)) None) is

-- ---- what is bad

-- the numbers of faults of a stored package
numbers_agree : (fault : Option PackageFault) (own : Bool)
    → option_or (option_map number_of_fault fault) (cond own None (Some 13)) ≡ option_and_then number_of_stored_fault (option_or (option_map Package fault) (cond own None (Some Identity)))
numbers_agree (Some f) own = refl
numbers_agree None true = refl
numbers_agree None false = refl

-- a fresh entry's package is bad as the check of it says
pub bad_is : (s : State) (m : SlotManifest) (k : ℕ) (a : Option StoreFault) → k < m.manifest.count → get_or m.slots k 0 < 16 → get_or m.fresh k false ≡ true
    → package_answer (place_of m k).entry (held_bytes s (place_of m k).slot (place_of m k).entry.length) ≡ a
    → bad_package_at (inbox_of s.ext) (stored_of m) k ≡ option_map (BadPackage k) (option_and_then number_of_stored_fault a)
bad_is s m k a lt low fresh answer =
    let p : Placed = place_of m k in
    let b : List ℕ = held_bytes s p.slot p.entry.length in
    let fault : stored_fault p.entry (package_in (inbox_of s.ext) p) ≡ option_and_then number_of_stored_fault a =
    ap (stored_fault p.entry) (package_is s p low) ∙ numbers_agree (package_fault b) (is_of p.entry (header_of b)) ∙ ap (option_and_then number_of_stored_fault) answer in
    ap (option_and_then (λ (q : Placed). cond q.fresh (option_map (BadPackage k) (stored_fault q.entry (package_in (inbox_of s.ext) q))) None)) (entry_here m k lt)
    ∙ ap₂ (λ (f : Bool) (o : Option ℕ). cond f (option_map (BadPackage k) o) None) fresh fault

-- an entry that isn't fresh is never bad
pub held_good : (inbox : List (List ℕ)) (m : SlotManifest) (k : ℕ) → k < m.manifest.count → get_or m.fresh k false ≡ false → bad_package_at inbox (stored_of m) k ≡ None
held_good inbox m k lt rests =
    ap (option_and_then (λ (q : Placed). cond q.fresh (option_map (BadPackage k) (stored_fault q.entry (package_in inbox q))) None)) (entry_here m k lt)
    ∙ ap (λ (f : Bool). cond f (option_map (BadPackage k) (stored_fault (place_of m k).entry (package_in inbox (place_of m k)))) None) rests

-- what is said of entry k is said of the first faults
pub said_first : (A B : Type 0) (f : sets.SetFault) (faults : ℕ → Option SetFault) (n k : ℕ) → k < n → first_fault faults k ≡ None → is_set_fault {A = B} (Err f) ≡ false
    → (is_set_fault {A = A} (Err f) ≡ false → SetFaultIs {A = A} (Err f) (faults k)) → SetFaultIs {A = B} (Err f) (first_fault faults n)
said_first A B set_faults.Fault faults n k lt none e says = absurd cc
said_first A B (set_faults.Missing j) faults n k lt none e says = first_fault-at faults n k (Missing j) lt none (says refl)
said_first A B (set_faults.BadPackage j x) faults n k lt none e says = first_fault-at faults n k (BadPackage j x) lt none (says refl)

-- ---- held entries

-- what the slot of a found entry is
pub found_slot : (m : SlotManifest) (e : Entry) (j : ℕ) → IsFoundAt m e j → held_slot (stored_of m) e ≡ Some (place_of m j).slot
found_slot m e j found =
    ap (option_map (λ (p : Placed). p.slot)) (find_at (λ (p : Placed). is_same_entry p.entry e) (stored_of m).placed j (place_of m j) found.first (entry_here m j found.low) found.same)

-- entries that are the same are as long
pub same_length : (e f : Entry) → is_same_entry e f ≡ true → e.length ≡ f.length
same_length e f same =
    let a = and_parts (eqb e.component f.component && eqb e.version f.version && eqb e.length f.length) (is_same e.digest f.digest) same in
    let b = and_parts (eqb e.component f.component && eqb e.version f.version) (eqb e.length f.length) a.0 in
    eqb-true e.length f.length b.1

-- entry k of a manifest over the current one, by its mark
pub over_here : (current m : SlotManifest) (k : ℕ) (over : IsSlotFor current m) → k < m.manifest.count → slice_get (slots_for (stored_of current) over.release).placed k ≡ Some (place_of m k)
over_here current m k over lt = ap (λ r. slice_get r.placed k) (sym over.slots) ∙ entry_here m k lt

-- one that isn't held is fresh
pub unheld_fresh : (current m : SlotManifest) (k : ℕ) → IsSlotFor current m → k < m.manifest.count → held_slot (stored_of current) (place_of m k).entry ≡ None → get_or m.fresh k false ≡ true
unheld_fresh current m k over lt none = slots_are_found.fresh (stored_of current) over.release k (place_of m k) (over_here current m k over lt) none

-- one that is held has its slot
pub held_slot_is : (current m : SlotManifest) (k j : ℕ) → IsSlotFor current m → k < m.manifest.count → IsFoundAt current (place_of m k).entry j → (place_of m k).slot ≡ (place_of current j).slot
held_slot_is current m k j over lt found =
    (slots_are_found.held (stored_of current) over.release k (place_of m k) (place_of current j).slot (over_here current m k over lt) (found_slot current (place_of m k).entry j found)).0

-- what the current set says of an entry fits it
pub held_fits : (current : StoredSet) (p : Placed) (x : Part) → IsSet current → length current.headers ≡ 16 → length current.slots.manifest.entries ≡ 16 → IsHeldPart current p.entry x → FitsPlace p x
held_fits current p x is room entry_room part =
    let j : ℕ = part.at in
    let few : current.slots.manifest.count ≤ 16 = is.manifest.count in
    let low : j < current.slots.manifest.count = part.found.low in
    let h : Header = get_or current.headers j no_header in
    let e : Entry = get_or current.slots.manifest.entries j no_entry in
    let fit : IsHeaderOf h e = is.headers j h e low (slice_get-get_or current.headers j no_header (omega arith)) (slice_get-get_or current.slots.manifest.entries j no_entry (omega arith)) in
    let whole : FitsPlace p (record { header = h; code_at = get_or current.code_at j 0; init_at = get_or current.init_at j 0 }) = record {
      header_fits = record { even = fit.even; total = fit.total ∙ same_length e p.entry part.found.same };
      within = λ rests in_init. is.parts j low part.rests in_init;
    } in
    subst (FitsPlace p) (sym part.is) whole

-- ---- parts in three lists

-- one more of them
pub parts_next : (P : ℕ → Part → Type 0) (hs : List Header) (cs bs : List ℕ) (k : ℕ) (x : Part) → k < length hs → k < length cs → k < length bs
    → ((j : ℕ) → j < k → P j (part_in hs cs bs j)) → P k x → (j : ℕ) → j < k + 1 → P j (part_in (set hs k x.header) (set cs k x.code_at) (set bs k x.init_at) j)
parts_next P hs cs bs k x long wide deep before here j lt =
    elim (cases_lt j k) [
      | inl below ↦
          let other : j ≢ k = omega arith in
          subst (P j) (sym (made (get_or-set_other hs k j x.header no_header other) (get_or-set_other cs k j x.code_at 0 other) (get_or-set_other bs k j x.init_at 0 other))) (before j below)
      | inr not_below ↦
          let same : k ≡ j = omega arith in
          subst (λ (i : ℕ). P i (part_in (set hs k x.header) (set cs k x.code_at) (set bs k x.init_at) i)) same
          (subst (P k) (sym (made (get_or-set_same hs k x.header no_header long) (get_or-set_same cs k x.code_at 0 wide) (get_or-set_same bs k x.init_at 0 deep))) here)
    ]
  where
    the_part : Header → ℕ → ℕ → Part
    the_part h a b = record { header = h; code_at = a; init_at = b }

    made : {h g : Header} {a b c d : ℕ} → h ≡ g → a ≡ b → c ≡ d → the_part h a c ≡ the_part g b d
    made {h} {g} {a} {b} {c} {d} p q r = ap (λ (x : Header). the_part x a c) p ∙ ap (λ (x : ℕ). the_part g x c) q ∙ ap (λ (x : ℕ). the_part g b x) r

-- ---- the faults of a set

-- those of as many entries as the count says
pub both_faults : (inbox : List (List ℕ)) (m : SlotManifest)
    → option_or (first_fault (missing_at inbox (stored_of m)) m.manifest.count) (first_fault (bad_package_at inbox (stored_of m)) m.manifest.count) ≡ set_fault inbox (stored_of m)
both_faults inbox m =
    ap (λ (n : ℕ). option_or (first_fault (missing_at inbox (stored_of m)) n) (first_fault (bad_package_at inbox (stored_of m)) n)) (sym (length-list_of (place_of m) m.manifest.count))
