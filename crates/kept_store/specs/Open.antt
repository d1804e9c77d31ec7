-- The steps in which sets are opened: helpers of the proofs, which nobody needs to believe.
use Rattle.std.specs.Prelude.{◌≡◌, ◌<◌, ◌≤◌, ◌+◌, ℕ, Bool, true, false, List, [], length, replicate, slice_index, slice_index_or, take, None, find, if◌then◌else◌}
use Rattle.std.specs.List.{sum_by}
use Rattle.component_package.specs.declared.limits.TheConstants.{IMAGE_BYTES}
use Rattle.component_package.specs.declared.manifest.Entry.{Entry}
use Rattle.component_package.specs.declared.part.Header.{Header}
use Rattle.component_package.specs.packages.Reading.{header_of}
use Rattle.component_package.specs.mote.Store.{is_same_entry}
use Rattle.component_store.specs.Sets.{IsHeaderOf, length_of_part}
use Rattle.kept_definitions.specs.Stored.{Placed}
use Rattle.kept_definitions.specs.Kept.{package_in}
use Rattle.kept_manifests.specs.declared.pages.SlotManifest.{SlotManifest}
use Rattle.kept_manifests.specs.Slots.{place_of, stored_of}
use Rattle.kept_store.specs.declared.set.StoredSet.{StoredSet}
use Rattle.kept_store.specs.declared.open.Part.{Part}
use Rattle.kept_store.specs.Sets.{no_header, header_at, is_fresh}

-- ---- the installed set

-- the headers are those that the table slots begin with
abbrev pub HasTableHeaders : List (List ℕ) → SlotManifest → ℕ → List Header → Type 0
HasTableHeaders tables m n headers = (k : ℕ) → k < n → slice_index_or headers k no_header ≡ header_of (slice_index_or tables (slice_index m.slots k) [])

-- code and data of the first components fit program flash
abbrev pub FitsFlash : ℕ → List Header → Type 0
FitsFlash n headers = sum_by (λ h. h.code) (take n headers) + sum_by (λ h. h.init) (take n headers) ≤ IMAGE_BYTES

-- the set of a release with these headers, where no entry is fresh, and code and data stand one behind the other
pub record IsAtRest (m : SlotManifest) (headers : List Header) (set : StoredSet) : Type 0 where
  pub slots : set.slots ≡ record m { fresh = replicate 16 false }
  pub headers_are : set.headers ≡ headers
  pub code : (k : ℕ) → k < m.manifest.count → slice_index set.code_at k ≡ sum_by (λ h. h.code) (take k headers)
  pub init : (k : ℕ) → k < m.manifest.count
      → slice_index set.init_at k ≡ sum_by (λ h. h.code) (take m.manifest.count headers) + sum_by (λ h. h.init) (take k headers)

-- ---- an incoming set

-- a set's lists have 16 places each
pub record HasRooms (set : StoredSet) : Type 0 where
  pub headers : length set.headers ≡ 16
  pub entries : length set.slots.manifest.entries ≡ 16
  pub slots : length set.slots.slots ≡ 16

-- entry j of the release is the first that is this one
pub record IsFoundAt (m : SlotManifest) (e : Entry) (j : ℕ) : Type 0 where
  pub low : j < m.manifest.count
  pub first : find (λ p. is_same_entry p.entry e) (take j (stored_of m).placed) ≡ None
  pub same : is_same_entry (place_of m j).entry e ≡ true

-- what a set says of component j
abbrev pub part_of_set : StoredSet → ℕ → Part
part_of_set set j = record { header = header_at set j; code_at = slice_index set.code_at j; init_at = slice_index set.init_at j }

abbrev pub part_start : Part → Bool → ℕ
part_start x in_init = if in_init then x.init_at else x.code_at

-- a header that fits an entry, and parts that end within program flash where it isn't fresh
pub record FitsPlace (p : Placed) (x : Part) : Type 0 where
  pub header_fits : IsHeaderOf x.header p.entry
  pub within : p.fresh ≡ false → (in_init : Bool) → part_start x in_init + length_of_part x.header in_init ≤ IMAGE_BYTES

-- what the current set says of an entry that it has, and that isn't fresh in it
pub record IsHeldPart (current : StoredSet) (e : Entry) (x : Part) : Type 0 where
  pub at : ℕ
  pub found : IsFoundAt current.slots e at
  pub rests : is_fresh current at ≡ false
  pub is : x ≡ part_of_set current at

-- what is said of entry k of an incoming manifest: the header of the package in its inbox slot, or what the current set says
pub record IsPart (inbox : List (List ℕ)) (m : SlotManifest) (current : StoredSet) (k : ℕ) (x : Part) : Type 0 where
  pub came : (place_of m k).fresh ≡ true → x.header ≡ header_of (package_in inbox (place_of m k))
  pub held : (place_of m k).fresh ≡ false → IsHeldPart current (place_of m k).entry x

-- the parts of the first n entries in three lists
abbrev pub part_in : List Header → List ℕ → List ℕ → ℕ → Part
part_in headers code init k = record { header = slice_index_or headers k no_header; code_at = slice_index code k; init_at = slice_index init k }
