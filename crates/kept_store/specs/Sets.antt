-- Sets of components that a board holds: installed ones, and those in the inbox.
use Rattle.std.specs.Prelude.{◌≡◌, ◌<◌, ◌≤◌, ◌+◌, ℕ, Bool, false, List, length, map, slice_get, slice_index, slice_index_or, Some, if◌then◌else◌}
use Rattle.flash_pages.specs.State.{State}
use Rattle.component_package.specs.declared.limits.TheConstants.{IMAGE_BYTES}
use Rattle.component_package.specs.declared.part.Header.{Header}
use Rattle.component_package.specs.packages.Component.{Component}
use Rattle.component_package.specs.packages.Reading.{header_of_component}
use Rattle.component_package.specs.packages.Manifest.{Release, IsRelease}
use Rattle.component_package.specs.link.Pages.{IsPages}
use Rattle.component_store.specs.Sets.{AreHeaders, length_of_part}
use Rattle.kept_definitions.specs.Stored.{StoredRelease}
use Rattle.kept_definitions.specs.Kept.{Chosen, HoldPackages, inbox_of, tables_of, kept_packages, slots_for}
use Rattle.kept_definitions.specs.Sides.{kept_set}
use Rattle.kept_laws.specs.Held.{IsReadable, installed}
use Rattle.kept_manifests.specs.declared.pages.SlotManifest.{SlotManifest}
use Rattle.kept_manifests.specs.Slots.{IsSlotManifest, place_of, stored_of}
use Rattle.kept_store.specs.declared.set.StoredSet.{StoredSet}

abbrev pub no_header : Header
no_header = record { component = 0; version = 0; code = 0; init = 0; bss = 0; exports = 0; relocs = 0 }

-- the header of component k
abbrev pub header_at : StoredSet → ℕ → Header
header_at set k = slice_index_or set.headers k no_header

-- the byte of program flash at which its code begins, or its data
abbrev pub part_at : StoredSet → ℕ → Bool → ℕ
part_at set k in_init = if in_init then slice_index set.init_at k else slice_index set.code_at k

-- component k comes in with the release
abbrev pub is_fresh : StoredSet → ℕ → Bool
is_fresh set k = slice_index_or set.slots.fresh k false

-- the condition on a set that a call takes: a stored manifest, headers that fit its entries, and parts that end within program flash
pub record IsSet (set : StoredSet) : Type 0 where
  pub manifest : IsSlotManifest set.slots
  pub headers : AreHeaders set.slots.manifest set.slots.manifest.count set.headers
  pub parts : (k : ℕ) → k < set.slots.manifest.count → is_fresh set k ≡ false → (in_init : Bool)
      → part_at set k in_init + length_of_part (header_at set k) in_init ≤ IMAGE_BYTES

-- ---- what a board holds

-- Component k of the set is this: its package is the entry's, it can be read where the set says, and the set has its header.
pub record IsComponentOf (s : State) (set : StoredSet) (k : ℕ) (c : Component) : Type 0 where
  pub readable : IsReadable s.prog (tables_of s.ext) (inbox_of s.ext) (place_of set.slots k) (slice_index set.code_at k) (slice_index set.init_at k) c
  pub header : header_at set k ≡ header_of_component c

-- these are the components of the set, in the release's order
pub record HoldsSet (s : State) (set : StoredSet) (components : List Component) : Type 0 where
  pub count : length components ≡ set.slots.manifest.count
  pub each : (k : ℕ) (c : Component) → slice_get components k ≡ Some c → IsComponentOf s set k c

-- ---- the installed set

-- The release's set is installed: its packages are taken back whole, and program flash is its image. So it is with the chosen release of a sound board
-- with no open Go gate.
pub record HasInstalled (s : State) (m : StoredRelease) : Type 0 where
  pub packages : HoldPackages m.placed (kept_packages (tables_of s.ext) s.prog m)
  pub pages : IsPages (kept_set (tables_of s.ext) s.prog m) s.prog

-- the release with no entry marked fresh
abbrev pub at_rest : StoredRelease → StoredRelease
at_rest m = record { number = m.number; placed = map installed m.placed }

-- no component of the set is fresh
abbrev pub HasNoFresh : StoredSet → Type 0
HasNoFresh set = (k : ℕ) → k < set.slots.manifest.count → is_fresh set k ≡ false

-- ---- the incoming set

-- the manifest is a release's with the slots that it gets over this one: `slot_for` answers it
pub record IsSlotFor (current incoming : SlotManifest) : Type 0 where
  pub release : Release
  pub is : IsRelease release
  pub slots : stored_of incoming ≡ slots_for (stored_of current) release

-- a set with its components, as what an incoming one comes over
abbrev pub chosen_of : StoredSet → List Component → Chosen
chosen_of set components = record { release = stored_of set.slots; set = components }
