-- What is missing or bad, entry by entry.
use Rattle.std.proofs.Common.{◌≡◌, ◌≢◌, ◌⊎◌, inl, inr, ℕ, zero, suc, ◌+◌, ◌-◌, ◌<◌, ◌≤◌, Bool, true, false, cond, Option, Some, None, Err, List, [], ◌∷◌, length, take, get_or, set, refl, sym, ap, ◌∙◌, arith}
use Rattle.std.specs.Prelude.{slice_get, not, IsTrue, ◌↔◌}
use Rattle.std.specs.Option.{option_or, option_map, option_and_then}
use Rattle.sha2.specs.Sha256.{sha256}
use Rattle.flash_pages.specs.State.{State}
use Rattle.component_package.specs.declared.manifest.Entry.{Entry}
use Rattle.component_package.specs.declared.manifest.SlotManifest.{SlotManifest}
use Rattle.component_package.specs.declared.part.Header.{Header}
use Rattle.component_package.specs.declared.fault.PackageFault.{PackageFault}
use Rattle.component_package.specs.packages.Reading.{first_fault, package_fault, number_of_fault, header_of}
use Rattle.component_package.specs.packages.Manifest.{Placed, StoredRelease, IsManifestEntry, IsSlotManifest, stored_of}
use Rattle.component_package.specs.mote.Store.{slots_of, package_in, is_same, is_missing, missing_at, bad_package_at, stored_fault, SetFault, Missing, BadPackage}
use Rattle.component_package.proofs.Lists.{all_at}
use Rattle.component_package.proofs.StoredLemmas.{pair_at, the_placed}
use Rattle.component_store.specs.declared.set.StoreFault.{StoreFault}
use Rattle.component_store.specs.declared.set.StoreFault.TheVariants.{Fault, Page, PieceLength, Package, Identity}
use Rattle.component_store.specs.Reader.{held_bytes}
use Rattle.component_store.specs.Packages.{is_of, package_answer}
use Rattle.component_store.specs.Sets.{number_of_stored_fault, is_set_fault, SetFaultIs}
use Rattle.component_store.specs.Pieces.{is_fault}
use Rattle.component_store.specs.declared.set.SetFault as sets
use Rattle.component_store.specs.declared.set.SetFault.TheVariants as set_faults
use Rattle.component_store.proofs.SlotLemmas.{decides}
use Rattle.component_store.proofs.SlotBytes.{slot_is}

abbrev pub no_entry : Entry
no_entry = record { component = 0; version = 0; length = 0; digest = [] }

-- entry k of a stored manifest with its slot
abbrev pub entry_of : SlotManifest → ℕ → Placed
entry_of m k = the_placed (get_or m.manifest.entries k no_entry, get_or m.slots k 0)

-- it is one of the stored release's
pub record IsEntry (m : SlotManifest) (k : ℕ) : Type 0 where
  pub here : slice_get (stored_of m).placed k ≡ Some (entry_of m k)
  pub slot : get_or m.slots k 0 < 32
  pub entry : IsManifestEntry (get_or m.manifest.entries k no_entry)

pub is_entry : (m : SlotManifest) (k : ℕ) → IsSlotManifest m → length m.manifest.entries ≡ 16 → length m.slots ≡ 16 → k < m.manifest.count → IsEntry m k
is_entry m k is room slot_room lt =
    let few : m.manifest.count ≤ 16 = is.count in
    let here = pair_at (λ x. the_placed x) m.manifest.entries m.slots m.manifest.count k no_entry 0 lt (omega arith) (omega arith) in
    record {
      here = here;
      slot = all_at (λ (p : Placed). p.slot < 32) (stored_of m).placed k (entry_of m k) is.stored.slots here;
      entry = all_at (λ (p : Placed). IsManifestEntry p.entry) (stored_of m).placed k (entry_of m k) is.stored.entries here;
    }

-- the bytes where an entry's package is to be
pub package_is : (s : State) (p : Placed) → p.slot < 32 → package_in (slots_of s.ext) p ≡ held_bytes s p.slot p.entry.length
package_is s p low = ap (take p.entry.length) (slot_is s.ext p.slot low)

-- an entry is missing where the check of its digest says no
pub missing_is : (s : State) (m : StoredRelease) (k : ℕ) (p : Placed) (b : Bool) → slice_get m.placed k ≡ Some p → p.slot < 32
    → IsTrue b ↔ (sha256 (held_bytes s p.slot p.entry.length) ≡ p.entry.digest) → missing_at (slots_of s.ext) m k ≡ cond (not b) (Some (Missing k)) None
missing_is s m k p b here low test =
    let same : is_same (sha256 (package_in (slots_of s.ext) p)) p.entry.digest ≡ b = ap (λ (l : List ℕ). is_same (sha256 l) p.entry.digest) (package_is s p low) ∙ sym (decides b (sha256 (held_bytes s p.slot p.entry.length)) p.entry.digest test) in
    ap (option_and_then (λ (q : Placed). cond (is_missing (slots_of s.ext) q) (Some (Missing k)) None)) here ∙ ap (λ (t : Bool). cond (not t) (Some (Missing k)) None) same

-- the numbers of faults of a stored package
numbers_agree : (fault : Option PackageFault) (own : Bool)
    → option_or (option_map number_of_fault fault) (cond own None (Some 13)) ≡ option_and_then number_of_stored_fault (option_or (option_map Package fault) (cond own None (Some Identity)))
numbers_agree (Some f) own = refl
numbers_agree None true = refl
numbers_agree None false = refl

-- an entry's package is bad as the check of it says
pub bad_is : (s : State) (m : StoredRelease) (k : ℕ) (p : Placed) (a : Option StoreFault) → slice_get m.placed k ≡ Some p → p.slot < 32
    → package_answer p.entry (held_bytes s p.slot p.entry.length) ≡ a → bad_package_at (slots_of s.ext) m k ≡ option_map (BadPackage k) (option_and_then number_of_stored_fault a)
bad_is s m k p a here low answer =
    let b : List ℕ = held_bytes s p.slot p.entry.length in
    let fault : stored_fault p.entry (package_in (slots_of s.ext) p) ≡ option_and_then number_of_stored_fault a =
    ap (stored_fault p.entry) (package_is s p low) ∙ numbers_agree (package_fault b) (is_of p.entry (header_of b)) ∙ ap (option_and_then number_of_stored_fault) answer in
    ap (option_and_then (λ (q : Placed). option_map (BadPackage k) (stored_fault q.entry (package_in (slots_of s.ext) q)))) here ∙ ap (option_map (BadPackage k)) fault

-- ---- faults behind the last entry

or_none : {F : Type 0} (o : Option F) → option_or o None ≡ o
or_none None = refl
or_none (Some x) = refl

further : {F : Type 0} (f : ℕ → Option F) (n k : ℕ) → ((i : ℕ) → n ≤ i → f i ≡ None) → first_fault f (n + k) ≡ first_fault f n
further f n zero none = let same : n + 0 ≡ n = omega arith in ap (first_fault f) same
further f n (suc k) none =
    let more : n + suc k ≡ suc (n + k) = omega arith in
    ap (first_fault f) more ∙ ap (option_or (first_fault f (n + k))) (none (n + k) (omega arith)) ∙ or_none (first_fault f (n + k)) ∙ further f n k none

-- there are none
pub first_fault-past : {F : Type 0} (f : ℕ → Option F) (n m : ℕ) → n ≤ m → ((i : ℕ) → n ≤ i → f i ≡ None) → first_fault f m ≡ first_fault f n
first_fault-past f n m le none =
    let split : m ≡ n + (m - n) = omega arith in
    ap (first_fault f) split ∙ further f n (m - n) none

past : {X : Type 0} (xs : List X) (i : ℕ) → length xs ≤ i → slice_get xs i ≡ None
past [] i le = refl
past (x ∷ xs) zero le = absurd (omega arith)
past (x ∷ xs) (suc i) le = past xs i (omega arith)

pub missing_past : (store : List (List ℕ)) (m : StoredRelease) (i : ℕ) → length m.placed ≤ i → missing_at store m i ≡ None
missing_past store m i le = ap (option_and_then (λ (p : Placed). cond (is_missing store p) (Some (Missing i)) None)) (past m.placed i le)

pub bad_past : (store : List (List ℕ)) (m : StoredRelease) (i : ℕ) → length m.placed ≤ i → bad_package_at store m i ≡ None
bad_past store m i le = ap (option_and_then (λ (p : Placed). option_map (BadPackage i) (stored_fault p.entry (package_in store p)))) (past m.placed i le)

-- ---- a list with one element set

pub set_or_kept : {X : Type 0} (xs : List X) (i j : ℕ) (x y : X) → slice_get (set xs i x) j ≡ Some y → ((j ≡ i) × (y ≡ x)) ⊎ ((j ≢ i) × (slice_get xs j ≡ Some y))
set_or_kept [] i j x y at = absurd cc
set_or_kept (z ∷ zs) zero zero x y at = inl (refl, (let e : y ≡ x = cc in e))
set_or_kept (z ∷ zs) zero (suc j) x y at = inr ((λ same. absurd (omega arith)), at)
set_or_kept (z ∷ zs) (suc i) zero x y at = inr ((λ same. absurd (omega arith)), at)
set_or_kept (z ∷ zs) (suc i) (suc j) x y at = go (set_or_kept zs i j x y at)
  where
    go : ((j ≡ i) × (y ≡ x)) ⊎ ((j ≢ i) × (slice_get zs j ≡ Some y)) → ((suc j ≡ suc i) × (y ≡ x)) ⊎ ((suc j ≢ suc i) × (slice_get (z ∷ zs) (suc j) ≡ Some y))
    go (inl both) = inl (ap suc both.0, both.1)
    go (inr both) = inr ((λ same. both.0 (omega arith)), both.1)

-- ---- answers, from one type to another

-- a fault with a number is none of the board
pub numbered : (f : StoreFault) (n : ℕ) → number_of_stored_fault f ≡ Some n → is_fault {A = Header} (Err f) ≡ false
numbered Fault n e = absurd cc
numbered Page n e = refl
numbered PieceLength n e = refl
numbered (Package f) n e = refl
numbered Identity n e = refl

-- a set is refused for a first entry, or for one behind none
pub refused : (A B : Type 0) (f : sets.SetFault) (o p : Option SetFault) → is_set_fault {A = B} (Err f) ≡ false → (is_set_fault {A = A} (Err f) ≡ false → SetFaultIs {A = A} (Err f) o) → SetFaultIs {A = B} (Err f) (option_or o p)
refused A B set_faults.Fault o p e says = absurd cc
refused A B (set_faults.Missing k) o p e says = ap (λ (x : Option SetFault). option_or x p) (says refl)
refused A B (set_faults.BadPackage k n) o p e says = ap (λ (x : Option SetFault). option_or x p) (says refl)

pub refused_later : (A B : Type 0) (f : sets.SetFault) (o p : Option SetFault) → o ≡ None → is_set_fault {A = B} (Err f) ≡ false → (is_set_fault {A = A} (Err f) ≡ false → SetFaultIs {A = A} (Err f) p) → SetFaultIs {A = B} (Err f) (option_or o p)
refused_later A B set_faults.Fault o p none e says = absurd cc
refused_later A B (set_faults.Missing k) o p none e says = ap (λ (x : Option SetFault). option_or x p) none ∙ says refl
refused_later A B (set_faults.BadPackage k n) o p none e says = ap (λ (x : Option SetFault). option_or x p) none ∙ says refl
