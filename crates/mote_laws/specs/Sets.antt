-- Sets of components in slots.
use Rattle.std.specs.Prelude.{◌≡◌, ℕ, List, [], slice_get, slice_index_or, slice_set, Some, None}
use Rattle.std.specs.List.{AllByRecursion}
use Rattle.avr_reloc.specs.Field.{AreBytes}
use Rattle.component_package.specs.packages.Grammar.{IsComponent}
use Rattle.component_package.specs.packages.Manifest.{Placed, StoredRelease, Stores}
use Rattle.component_package.specs.mote.Store.{HasSet, components_of, set_fault, held_slot}
use Rattle.component_package.specs.mote.Sound.{IsNext}
use Rattle.mote_laws.specs.Steps.{IsUnused}

-- whatever is in the slots is bytes
abbrev pub AreByteSlots : List (List ℕ) → Type 0
AreByteSlots store = (s : ℕ) → AreBytes (slice_index_or store s [])

-- Slots hold a release's set exactly where nothing is missing and no package is bad, and its components are then the grammar's.
pub record SetsAreFaultless : Type 0 where
  pub faultless : (store : List (List ℕ)) (m : StoredRelease) → HasSet store m → set_fault store m ≡ None
  pub whole : (store : List (List ℕ)) (m : StoredRelease) → AreByteSlots store → set_fault store m ≡ None → HasSet store m
  pub components : (store : List (List ℕ)) (m : StoredRelease) → HasSet store m → AllByRecursion IsComponent (components_of store m)

-- A slot that a release doesn't use may become anything: its set stays, and so do its components.
pub record OtherSetsStay : Type 0 where
  pub set : (store : List (List ℕ)) (s : ℕ) (bytes : List ℕ) (m : StoredRelease) → IsUnused m s → HasSet store m → HasSet (slice_set store s bytes) m
  pub components : (store : List (List ℕ)) (s : ℕ) (bytes : List ℕ) (m : StoredRelease) → IsUnused m s
      → components_of (slice_set store s bytes) m ≡ components_of store m
  -- so a piece of an entry that isn't held leaves the current release's set
  pub piece : (current side : List ℕ) (m n : StoredRelease) (k : ℕ) (p : Placed) → IsNext current side → Stores current m → Stores side n
      → slice_get n.placed k ≡ Some p → held_slot m p.entry ≡ None → IsUnused m p.slot
