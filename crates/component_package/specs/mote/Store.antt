-- Slots, the set that they hold, and the slots that a new release gets.
use Rattle.std.specs.Prelude.{◌≡◌, ℕ, ◌+◌, ◌*◌, ◌==◌, ◌&&◌, not, Bool, true, false, List, [], ◌∷◌, take, drop, map, length, slice_get, slice_index_or, Option, Some, None, unwrap_or, if◌then◌else◌, find}
use Rattle.std.specs.List.{concat, list_any, range_with_len, AllByRecursion}
use Rattle.std.specs.Option.{option_or, option_map, option_and_then}
use Rattle.sha2.specs.Sha256.{sha256}
use Rattle.component_package.specs.declared.areas.TheConstants.{SLOTS, SLOT_PAGES}
use Rattle.component_package.specs.declared.manifest.Entry.{Entry}
use Rattle.component_package.specs.packages.Component.{Component}
use Rattle.component_package.specs.packages.Reading.{package_fault, number_of_fault, component_of, header_of, first_fault}
use Rattle.component_package.specs.packages.Grammar.{Spells}
use Rattle.component_package.specs.packages.Manifest.{Release, Placed, StoredRelease}

-- ---- what slots hold

-- the first page of slot s in external flash, and page p of the slot
abbrev pub slot_start : ℕ → ℕ
slot_start s = SLOTS + SLOT_PAGES * s

abbrev pub page_of_slot : ℕ → ℕ → ℕ
page_of_slot s p = slot_start s + p

-- slot s: its 39 pages, joined
abbrev pub slot_at : List (List ℕ) → ℕ → List ℕ
slot_at ext s = concat (take SLOT_PAGES (drop (slot_start s) ext))

-- the 32 slots
unfoldable pub slots_of : List (List ℕ) → List (List ℕ)
slots_of ext = map (slot_at ext) (range_with_len 0 32)

-- the bytes where the package of an entry is to be
abbrev pub package_in : List (List ℕ) → Placed → List ℕ
package_in store p = take p.entry.length (slice_index_or store p.slot [])

-- the slot holds the entry's package: bytes with its digest that spell a component with its number and version
pub record HoldsPackage (store : List (List ℕ)) (p : Placed) : Type 0 where
  pub digest : sha256 (package_in store p) ≡ p.entry.digest
  pub component : Component
  pub spelled : Spells (package_in store p) component
  pub number : component.component ≡ p.entry.component
  pub version : component.version ≡ p.entry.version

-- the slots hold a whole set: each entry's package
abbrev pub HasSet : List (List ℕ) → StoredRelease → Type 0
HasSet store m = AllByRecursion (HoldsPackage store) m.placed

-- the set, where there is one: the components in the release's order
abbrev pub components_of : List (List ℕ) → StoredRelease → List Component
components_of store m = map (λ p. component_of (package_in store p)) m.placed

-- ---- why slots hold no set

-- two lists are the same
abbrev pub is_same : List ℕ → List ℕ → Bool
is_same [] [] = true
is_same [] (y ∷ ys) = false
is_same (x ∷ xs) [] = false
is_same (x ∷ xs) (y ∷ ys) = x == y && is_same xs ys

-- an entry's package isn't there, or is not the entry's: 13, or its own fault's number
pub data SetFault : Type 0 where
  Missing : (entry : ℕ) → SetFault
  BadPackage : (entry fault : ℕ) → SetFault

abbrev pub is_missing : List (List ℕ) → Placed → Bool
is_missing store p = not (is_same (sha256 (package_in store p)) p.entry.digest)

-- the component or the version is another than the entry's
abbrev pub identity_fault : Entry → List ℕ → Option ℕ
identity_fault e b = let h = header_of b in if h.component == e.component && h.version == e.version then None else Some 13

-- what is wrong with a stored package as a number: a fault of the package, or 13 where it is another component's or version's
abbrev pub stored_fault : Entry → List ℕ → Option ℕ
stored_fault e b = option_or (option_map number_of_fault (package_fault b)) (identity_fault e b)

abbrev pub missing_at : List (List ℕ) → StoredRelease → ℕ → Option SetFault
missing_at store m k = option_and_then (λ p. if is_missing store p then Some (Missing k) else None) (slice_get m.placed k)

abbrev pub bad_package_at : List (List ℕ) → StoredRelease → ℕ → Option SetFault
bad_package_at store m k = option_and_then (λ p. option_map (BadPackage k) (stored_fault p.entry (package_in store p))) (slice_get m.placed k)

-- the first entry that is missing, else the first whose package is bad
abbrev pub set_fault : List (List ℕ) → StoredRelease → Option SetFault
set_fault store m = option_or (first_fault (missing_at store m) (length m.placed)) (first_fault (bad_package_at store m) (length m.placed))

-- ---- slots for a new release

abbrev pub is_same_entry : Entry → Entry → Bool
is_same_entry e f = e.component == f.component && e.version == f.version && e.length == f.length && is_same e.digest f.digest

-- the current release's slot for an entry that it has too, equal in all four fields
abbrev pub held_slot : StoredRelease → Entry → Option ℕ
held_slot current e = option_map (λ p. p.slot) (find (λ p. is_same_entry p.entry e) current.placed)

abbrev pub is_taken : List ℕ → ℕ → Bool
is_taken taken s = list_any (λ t. t == s) taken

-- the least slot that isn't taken
abbrev pub least_free : List ℕ → ℕ
least_free taken = unwrap_or (find (λ s. not (is_taken taken s)) (range_with_len 0 32)) 0

abbrev pub place_entry : Option ℕ → List ℕ → ℕ
place_entry (Some s) taken = s
place_entry None taken = least_free taken

-- the slots of entries in order: the held one, else the least that is not taken, which is taken from then on
abbrev pub placed_from : StoredRelease → List ℕ → List Entry → List Placed
placed_from current taken [] = []
placed_from current taken (e ∷ es) =
    let slot = place_entry (held_slot current e) taken in
    record { entry = e; slot = slot } ∷ placed_from current (slot ∷ taken) es

-- a new release over the current one: held entries keep their slots, each other entry in order gets the least slot that neither the
-- current release nor an earlier entry has
abbrev pub slots_for : StoredRelease → Release → StoredRelease
slots_for current r = record { number = r.number; placed = placed_from current (map (λ p. p.slot) current.placed) r.entries }
