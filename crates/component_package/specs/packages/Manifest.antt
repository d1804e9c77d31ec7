-- A release as its manifest says it on the line, and as the mote stores it with the slots of its packages.
use Rattle.std.specs.Prelude.{◌≡◌, ℕ, ◌+◌, ◌-◌, ◌*◌, ◌<◌, ◌≤◌, ◌^◌, ◌==◌, ◌||◌, not, nat_lt, Bool, false, List, [], ◌∷◌, ◌++◌, length, take, map, replicate, slice_index, slice_range, Option, Some, None, if◌then◌else◌}
use Rattle.std.specs.List.{flat_map, list_any, zip, AllByRecursion}
use Rattle.avr_reloc.specs.Field.{AreBytes}
use Rattle.component_package.specs.declared.manifest.Entry.{Entry}
use Rattle.component_package.specs.declared.manifest.Manifest.{Manifest}
use Rattle.component_package.specs.declared.manifest.SlotManifest.{SlotManifest}
use Rattle.component_package.specs.declared.manifest.ManifestFault.{ManifestFault}
use Rattle.component_package.specs.declared.manifest.ManifestFault.TheVariants.{Short, Count, Repeated, Length}
use Rattle.component_package.specs.declared.limits.TheConstants.{PACKAGE_BYTES}
use Rattle.component_package.specs.packages.Numbers.{u16_bytes, u16_at, u32_bytes, u32_at}
use Rattle.component_package.specs.packages.Reading.{first_fault, list_of}

-- a release: its number, and an entry for each component in order
pub record Release : Type 0 where
  pub number : ℕ
  pub entries : List Entry

-- an entry, and the slot that is to hold its package
pub record Placed : Type 0 where
  pub entry : Entry
  pub slot : ℕ

-- a release as a side of external flash keeps it
pub record StoredRelease : Type 0 where
  pub number : ℕ
  pub placed : List Placed

-- the release without its slots
abbrev pub released : StoredRelease → Release
released m = record { number = m.number; entries = map (λ p. p.entry) m.placed }

-- what the code's structs stand for: their first entries
abbrev pub release_of : Manifest → Release
release_of m = record { number = m.release; entries = take m.count m.entries }

abbrev pub stored_of : SlotManifest → StoredRelease
stored_of m = record { number = m.manifest.release; placed = map (λ x. record { entry = x.0; slot = x.1 }) (zip (take m.manifest.count m.manifest.entries) (take m.manifest.count m.slots)) }

-- ---- which releases there are

-- no two of these are the same
abbrev pub AreDistinct : List ℕ → Type 0
AreDistinct [] = Unit {0}
AreDistinct (x ∷ xs) = (list_any (λ y. y == x) xs ≡ false) × AreDistinct xs

-- a package has 32 to 9,984 bytes, and a digest of 32
pub record IsManifestEntry (e : Entry) : Type 0 where
  pub component : e.component < 2 ^ 16
  pub version : e.version < 2 ^ 16
  pub least : 32 ≤ e.length
  pub most : e.length ≤ PACKAGE_BYTES
  pub digest : length e.digest ≡ 32
  pub bytes : AreBytes e.digest

-- 1 to 16 different components
pub record IsRelease (r : Release) : Type 0 where
  pub number : r.number < 2 ^ 32
  pub some : 1 ≤ length r.entries
  pub few : length r.entries ≤ 16
  pub entries : AllByRecursion IsManifestEntry r.entries
  pub distinct : AreDistinct (map (λ e. e.component) r.entries)

-- at most 16 different components in different slots below 32
pub record IsStored (m : StoredRelease) : Type 0 where
  pub number : m.number < 2 ^ 32
  pub few : length m.placed ≤ 16
  pub entries : AllByRecursion (λ p. IsManifestEntry p.entry) m.placed
  pub distinct : AreDistinct (map (λ p. p.entry.component) m.placed)
  pub slots : AllByRecursion (λ p. p.slot < 32) m.placed
  pub apart : AreDistinct (map (λ p. p.slot) m.placed)

-- the condition on a manifest that the code takes: its count is right, and its first entries are a release
pub record IsManifest (m : Manifest) : Type 0 where
  pub count : m.count ≤ 16
  pub release : IsRelease (release_of m)

-- the same for a manifest with slots
pub record IsSlotManifest (m : SlotManifest) : Type 0 where
  pub count : m.manifest.count ≤ 16
  pub stored : IsStored (stored_of m)

-- ---- manifests on the line

-- 38 bytes: component, version, length of the package, digest
abbrev pub manifest_entry_bytes : Entry → List ℕ
manifest_entry_bytes e = u16_bytes e.component ++ u16_bytes e.version ++ u16_bytes e.length ++ e.digest

-- the release's number, how many entries, and the entries
abbrev pub manifest_bytes : Release → List ℕ
manifest_bytes r = u32_bytes r.number ++ length r.entries ∷ flat_map manifest_entry_bytes r.entries

-- these bytes are the manifest of this release
pub record SpellsRelease (b : List ℕ) (r : Release) : Type 0 where
  pub release : IsRelease r
  pub bytes : b ≡ manifest_bytes r

abbrev pub manifest_entry_at : List ℕ → ℕ → Entry
manifest_entry_at b at = record { component = u16_at b at; version = u16_at b (at + 2); length = u16_at b (at + 4); digest = slice_range b (at + 6) (at + 38) }

abbrev pub manifest_entry : List ℕ → ℕ → Entry
manifest_entry b i = manifest_entry_at b (5 + 38 * i)

abbrev pub manifest_count : List ℕ → ℕ
manifest_count b = slice_index b 4

-- the release that bytes say where nothing is wrong with them
abbrev pub release_in : List ℕ → Release
release_in b = record { number = u32_at b 0; entries = list_of (manifest_entry b) (manifest_count b) }

-- an entry before entry i has its component
abbrev pub is_repeated : List ℕ → ℕ → Bool
is_repeated b i = list_any (λ e. e.component == (manifest_entry b i).component) (list_of (manifest_entry b) i)

abbrev pub entry_fault : List ℕ → ℕ → Option ManifestFault
entry_fault b i =
    let e = manifest_entry b i in
    if is_repeated b i then Some (Repeated e.component)
    else if nat_lt e.length 32 || nat_lt PACKAGE_BYTES e.length then Some (Length e.length)
    else None

-- the first fault of a manifest
abbrev pub manifest_fault : List ℕ → Option ManifestFault
manifest_fault b =
    let count = manifest_count b in
    if nat_lt (length b) 5 then Some (Short (length b))
    else if count == 0 || nat_lt 16 count then Some (Count count)
    else if not (length b == 5 + 38 * count) then Some (Short (length b))
    else first_fault (entry_fault b) count

-- the number of a fault, as the line `bad manifest` says it
abbrev pub number_of_manifest_fault : ManifestFault → ℕ
number_of_manifest_fault (Short n) = 1
number_of_manifest_fault (Count c) = 2
number_of_manifest_fault (Repeated c) = 3
number_of_manifest_fault (Length n) = 4

-- ---- stored manifests

-- 64 bytes: the entry, its slot and zeros
abbrev pub placed_bytes : Placed → List ℕ
placed_bytes p = manifest_entry_bytes p.entry ++ p.slot ∷ replicate 25 0

-- five pages, joined: one with the number and the count, and four with 16 places for entries; the rest is zeros
abbrev pub stored_bytes : StoredRelease → List ℕ
stored_bytes m = (u32_bytes m.number ++ length m.placed ∷ replicate 251 0) ++ (flat_map placed_bytes m.placed ++ replicate (1024 - 64 * length m.placed) 0)

-- these bytes of five pages are this release's
pub record Stores (b : List ℕ) (m : StoredRelease) : Type 0 where
  pub stored : IsStored m
  pub bytes : b ≡ stored_bytes m

abbrev pub placed_at : List ℕ → ℕ → Placed
placed_at b i = let at = 256 + 64 * i in record { entry = manifest_entry_at b at; slot = slice_index b (at + 38) }

-- the stored release that five pages say where they are one
abbrev pub stored_in : List ℕ → StoredRelease
stored_in b = record { number = u32_at b 0; placed = list_of (placed_at b) (slice_index b 4) }
