-- The sets that a mote holds: the installed one, whose code is in program flash alone, the one being installed, and the incoming one.
use Rattle.std.specs.Prelude.{◌≡◌, ℕ, ◌+◌, ◌*◌, ◌&&◌, not, Bool, true, false, List, [], ◌∷◌, take, drop, length, map, slice_get, slice_index_or, Option, Some, None, is_some, unwrap_or, if◌then◌else◌, find}
use Rattle.std.specs.List.{concat, flat_map, range_with_len, zip, AllByRecursion}
use Rattle.std.specs.Option.{option_or, option_map, option_and_then}
use Rattle.sha2.specs.Sha256.{sha256}
use Rattle.component_package.specs.declared.areas.TheConstants.{SLOT_PAGES}
use Rattle.component_package.specs.declared.manifest.Entry.{Entry}
use Rattle.component_package.specs.packages.Component.{Component}
use Rattle.component_package.specs.packages.Reading.{component_of, first_fault}
use Rattle.component_package.specs.packages.Grammar.{Spells}
use Rattle.component_package.specs.packages.Manifest.{Release}
use Rattle.component_package.specs.mote.Store.{SetFault, Missing, BadPackage, is_same, is_same_entry, stored_fault, is_taken}
use Rattle.kept_definitions.specs.declared.areas.TheConstants.{INBOX, TABLES}
use Rattle.kept_definitions.specs.Runs.{run_in_table, run_in_package, taken_back}
use Rattle.kept_definitions.specs.Stored.{Placed, StoredRelease}

-- ---- slots

-- slot s of a row of slots: its 39 pages, joined
abbrev pub slot_from : ℕ → List (List ℕ) → ℕ → List ℕ
slot_from first ext s = concat (take SLOT_PAGES (drop (first + SLOT_PAGES * s) ext))

-- the 16 inbox slots
unfoldable pub inbox_of : List (List ℕ) → List (List ℕ)
inbox_of ext = map (slot_from INBOX ext) (range_with_len 0 16)

-- the 16 table slots
unfoldable pub tables_of : List (List ℕ) → List (List ℕ)
tables_of ext = map (slot_from TABLES ext) (range_with_len 0 16)

-- ---- packages of entries

-- these bytes are the entry's package: as long, with its digest, and the spelling of a component with its number and version
pub record HoldsPackage (e : Entry) (b : List ℕ) : Type 0 where
  pub size : length b ≡ e.length
  pub digest : sha256 b ≡ e.digest
  pub component : Component
  pub spelled : Spells b component
  pub number : component.component ≡ e.component
  pub version : component.version ≡ e.version

-- each entry's package, in order
abbrev pub HoldPackages : List Placed → List (List ℕ) → Type 0
HoldPackages [] [] = Unit {0}
HoldPackages [] (b ∷ bs) = ⊥
HoldPackages (p ∷ ps) [] = ⊥
HoldPackages (p ∷ ps) (b ∷ bs) = HoldsPackage p.entry b × HoldPackages ps bs

-- the components that packages spell
abbrev pub components_in : List (List ℕ) → List Component
components_in packages = map component_of packages

-- ---- the installed set

-- the run that an entry's table slot begins with
abbrev pub table_run : List (List ℕ) → Placed → List ℕ
table_run tables p = run_in_table (slice_index_or tables p.slot [])

-- the packages whose runs the table slots begin with, and whose code and data are taken back from these pages
unfoldable pub kept_packages : List (List ℕ) → List (List ℕ) → StoredRelease → List (List ℕ)
kept_packages tables pages m = taken_back (concat pages) (map (table_run tables) m.placed)

-- ---- the set being installed

-- the run of a fresh entry is found in its inbox slot
abbrev pub going_run : List (List ℕ) → List (List ℕ) → Placed → List ℕ
going_run tables inbox p = if p.fresh then run_in_package (slice_index_or inbox p.slot []) else table_run tables p

-- its packages, taken back from the staged pages
unfoldable pub going_packages : List (List ℕ) → List (List ℕ) → List (List ℕ) → StoredRelease → List (List ℕ)
going_packages tables inbox staged m = taken_back (concat staged) (map (going_run tables inbox) m.placed)

-- ---- the incoming set

-- a release, and its set
pub record Chosen : Type 0 where
  pub release : StoredRelease
  pub set : List Component

-- the component of an entry that the current release has too, equal in all four fields
abbrev pub held_component : Chosen → Entry → Option Component
held_component current e = option_map (λ x. x.1) (find (λ x. is_same_entry x.0.entry e) (zip current.release.placed current.set))

-- the bytes in the inbox where the package of an entry is to be
abbrev pub package_in : List (List ℕ) → Placed → List ℕ
package_in inbox p = take p.entry.length (slice_index_or inbox p.slot [])

-- a fresh entry has the component that the inbox spells, and another one the component of the current set
abbrev pub coming_component : Chosen → List (List ℕ) → Placed → Component
coming_component current inbox p = if p.fresh then component_of (package_in inbox p) else unwrap_or (held_component current p.entry) (component_of [])

-- components that are held are the current set's, and fresh ones are spelled in the inbox
unfoldable pub coming_set : Chosen → List (List ℕ) → StoredRelease → List Component
coming_set current inbox m = map (coming_component current inbox) m.placed

-- the inbox holds the package of a fresh entry, and the current set has the component of another
pub record IsComing (current : Chosen) (inbox : List (List ℕ)) (p : Placed) : Type 0 where
  pub came : p.fresh ≡ true → HoldsPackage p.entry (package_in inbox p)
  pub held : p.fresh ≡ false → is_some (held_component current p.entry) ≡ true

-- there is such a set
abbrev pub HasComing : Chosen → List (List ℕ) → StoredRelease → Type 0
HasComing current inbox m = AllByRecursion (IsComing current inbox) m.placed

-- ---- why there is none

-- a fresh entry's bytes in the inbox have another digest
abbrev pub is_missing : List (List ℕ) → Placed → Bool
is_missing inbox p = p.fresh && not (is_same (sha256 (package_in inbox p)) p.entry.digest)

-- entry k is missing
abbrev pub missing_at : List (List ℕ) → StoredRelease → ℕ → Option SetFault
missing_at inbox m k = option_and_then (λ p. if is_missing inbox p then Some (Missing k) else None) (slice_get m.placed k)

-- entry k is fresh, and its bytes in the inbox are no package, or another component's or version's
abbrev pub bad_package_at : List (List ℕ) → StoredRelease → ℕ → Option SetFault
bad_package_at inbox m k =
    option_and_then (λ p. if p.fresh then option_map (BadPackage k) (stored_fault p.entry (package_in inbox p)) else None) (slice_get m.placed k)

-- the first fresh entry that is missing, else the first whose package is bad
abbrev pub set_fault : List (List ℕ) → StoredRelease → Option SetFault
set_fault inbox m = option_or (first_fault (missing_at inbox m) (length m.placed)) (first_fault (bad_package_at inbox m) (length m.placed))

-- ---- slots for a new release

-- the current release's slot for an entry that it has too
abbrev pub held_slot : StoredRelease → Entry → Option ℕ
held_slot current e = option_map (λ p. p.slot) (find (λ p. is_same_entry p.entry e) current.placed)

-- the slots of an entry: one, or none
abbrev pub slot_list : Option ℕ → List ℕ
slot_list None = []
slot_list (Some s) = s ∷ []

-- the slots that entries keep
abbrev pub held_slots : StoredRelease → List Entry → List ℕ
held_slots current es = flat_map (λ e. slot_list (held_slot current e)) es

-- the least slot that isn't taken
abbrev pub least_free : List ℕ → ℕ
least_free taken = unwrap_or (find (λ s. not (is_taken taken s)) (range_with_len 0 16)) 0

-- an entry keeps the slot that it has, or gets the least that is not taken
abbrev pub place : StoredRelease → List ℕ → Entry → Placed
place current taken e = record {
  entry = e;
  slot = unwrap_or (held_slot current e) (least_free taken);
  fresh = not (is_some (held_slot current e));
}

-- entries in order; a slot that one gets is taken from then on
abbrev pub placed_from : StoredRelease → List ℕ → List Entry → List Placed
placed_from current taken [] = []
placed_from current taken (e ∷ es) = let p = place current taken e in p ∷ placed_from current (if p.fresh then p.slot ∷ taken else taken) es

-- a new release over the current one: held entries keep their slots and aren't fresh, each other one is fresh and gets the least slot that
-- neither a held entry nor an earlier one has
abbrev pub slots_for : StoredRelease → Release → StoredRelease
slots_for current r = record { number = r.number; placed = placed_from current (held_slots current r.entries) r.entries }
