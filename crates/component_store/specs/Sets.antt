-- A set that was opened, and why there is none.
use Rattle.std.specs.Prelude.{◌≡◌, ◌<◌, ℕ, Bool, true, false, IsTrue, List, Option, Some, None, Result, Ok, Err, length, slice_get, slice_index_or, if◌then◌else◌}
use Rattle.flash_pages.specs.State.{State}
use Rattle.component_package.specs.declared.part.Header.{Header}
use Rattle.component_package.specs.declared.manifest.Entry.{Entry}
use Rattle.component_package.specs.declared.manifest.Manifest.{Manifest}
use Rattle.component_package.specs.packages.Reading.{header_of, has_even_lengths, total_of, number_of_fault}
use Rattle.component_package.specs.packages.Manifest.{Placed, StoredRelease, IsSlotManifest, stored_of}
use Rattle.component_package.specs.mote.Store.{slots_of, package_in, set_fault, components_of}
use Rattle.component_package.specs.packages.Component.{Component}
use Rattle.component_package.specs.mote.Store as store
use Rattle.component_store.specs.declared.set.StoreFault.{StoreFault}
use Rattle.component_store.specs.declared.set.StoreFault.TheVariants as faults
use Rattle.component_store.specs.declared.set.SetFault.{SetFault}
use Rattle.component_store.specs.declared.set.SetFault.TheVariants.{Fault, Missing, BadPackage}
use Rattle.component_store.specs.declared.set.StoredSet.{StoredSet}

-- ---- headers

-- a header has even lengths, and gives the entry's length
pub record IsHeaderOf (h : Header) (e : Entry) : Type 0 where
  pub even : IsTrue (has_even_lengths h)
  pub total : total_of h ≡ e.length

-- the first n headers fit the first n entries
abbrev pub AreHeaders : Manifest → ℕ → List Header → Type 0
AreHeaders m n headers = (k : ℕ) (h : Header) (e : Entry) → k < n → slice_get headers k ≡ Some h → slice_get m.entries k ≡ Some e → IsHeaderOf h e

-- they are those of the packages in the slots
abbrev pub HasHeaders : List (List ℕ) → StoredRelease → ℕ → List Header → Type 0
HasHeaders slots m n headers = (k : ℕ) (h : Header) (p : Placed) → k < n → slice_get headers k ≡ Some h → slice_get m.placed k ≡ Some p → h ≡ header_of (package_in slots p)

-- ---- sets

-- the condition on a set that a call takes: a stored manifest, and headers that fit its entries
pub record IsSet (set : StoredSet) : Type 0 where
  pub manifest : IsSlotManifest set.slots
  pub headers : AreHeaders set.slots.manifest set.slots.manifest.count set.headers

-- a board holds the set: nothing is missing or bad, and the headers are the packages'
pub record HoldsSet (s : State) (set : StoredSet) : Type 0 where
  pub whole : set_fault (slots_of s.ext) (stored_of set.slots) ≡ None
  pub headers : HasHeaders (slots_of s.ext) (stored_of set.slots) set.slots.manifest.count set.headers

-- ---- why there is none

-- a call of the board failed
abbrev pub is_set_fault : {A : Type 0} → Result A SetFault → Bool
is_set_fault (Ok a) = false
is_set_fault (Err Fault) = true
is_set_fault (Err (Missing k)) = false
is_set_fault (Err (BadPackage k f)) = false

-- where the call of the board didn't fail, this is what is wrong with the set
abbrev pub SetFaultIs : {A : Type 0} → Result A SetFault → Option store.SetFault → Type 0
SetFaultIs (Ok a) o = o ≡ None
SetFaultIs (Err Fault) o = ⊥
SetFaultIs (Err (Missing k)) o = o ≡ Some (store.Missing k)
SetFaultIs (Err (BadPackage k f)) o = o ≡ Some (store.BadPackage k f)

-- the number that says what is wrong with a stored package
abbrev pub number_of_stored_fault : StoreFault → Option ℕ
number_of_stored_fault faults.Fault = None
number_of_stored_fault faults.Page = None
number_of_stored_fault faults.PieceLength = None
number_of_stored_fault (faults.Package f) = Some (number_of_fault f)
number_of_stored_fault faults.Identity = Some 13

-- ---- what a set holds

abbrev no_header : Header
no_header = record { component = 0; version = 0; code = 0; init = 0; bss = 0; exports = 0; relocs = 0 }

-- the header of component k
abbrev pub header_at : StoredSet → ℕ → Header
header_at set k = slice_index_or set.headers k no_header

-- component k of the set that the slots hold is this
abbrev pub IsComponentOf : State → StoredSet → ℕ → Component → Type 0
IsComponentOf s set k c = slice_get (components_of (slots_of s.ext) (stored_of set.slots)) k ≡ Some c

-- code, or the data that is copied to RAM
abbrev pub part_of : Component → Bool → List ℕ
part_of c in_init = if in_init then c.init else c.code

abbrev pub length_of_part : Header → Bool → ℕ
length_of_part h in_init = if in_init then h.init else h.code

-- a set's lists have 16 places each
pub record HasRooms (set : StoredSet) : Type 0 where
  pub entries : length set.slots.manifest.entries ≡ 16
  pub slots : length set.slots.slots ≡ 16
  pub headers : length set.headers ≡ 16
