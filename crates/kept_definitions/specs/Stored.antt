-- A release as a side of external flash keeps it, in layout 2: which slots its packages have, and which of them come in with it.
use Rattle.std.specs.Prelude.{◌≡◌, ℕ, ◌+◌, ◌-◌, ◌*◌, ◌<◌, ◌≤◌, ◌^◌, ◌==◌, Bool, List, ◌∷◌, ◌++◌, length, map, replicate, slice_index, if◌then◌else◌}
use Rattle.std.specs.List.{flat_map, AllByRecursion}
use Rattle.component_package.specs.declared.manifest.Entry.{Entry}
use Rattle.kept_definitions.specs.declared.areas.TheConstants.{LAYOUT}
use Rattle.component_package.specs.packages.Numbers.{u32_bytes, u32_at}
use Rattle.component_package.specs.packages.Reading.{list_of}
use Rattle.component_package.specs.packages.Manifest.{Release, AreDistinct, IsManifestEntry, manifest_entry_bytes, manifest_entry_at}

-- an entry, its slot, and whether it came in with its release: then its package is in the inbox slot, and is installed by the boot that
-- installs the release
pub record Placed : Type 0 where
  pub entry : Entry
  pub slot : ℕ
  pub fresh : Bool

-- a release as a side of external flash keeps it
pub record StoredRelease : Type 0 where
  pub number : ℕ
  pub placed : List Placed

-- the release without its slots
abbrev pub released : StoredRelease → Release
released m = record { number = m.number; entries = map (λ p. p.entry) m.placed }

-- at most 16 different components in different slots below 16
pub record IsStored (m : StoredRelease) : Type 0 where
  pub number : m.number < 2 ^ 32
  pub few : length m.placed ≤ 16
  pub entries : AllByRecursion (λ p. IsManifestEntry p.entry) m.placed
  pub distinct : AreDistinct (map (λ p. p.entry.component) m.placed)
  pub slots : AllByRecursion (λ p. p.slot < 16) m.placed
  pub apart : AreDistinct (map (λ p. p.slot) m.placed)

-- 64 bytes: the entry, its slot, 1 where it is fresh, and zeros
abbrev pub placed_bytes : Placed → List ℕ
placed_bytes p = manifest_entry_bytes p.entry ++ p.slot ∷ (if p.fresh then 1 else 0) ∷ replicate 24 0

-- five pages, joined: one with the number, the count and the layout, and four with 16 places for entries; the rest is zeros
abbrev pub stored_bytes : StoredRelease → List ℕ
stored_bytes m = (u32_bytes m.number ++ length m.placed ∷ LAYOUT ∷ replicate 250 0) ++ (flat_map placed_bytes m.placed ++ replicate (1024 - 64 * length m.placed) 0)

-- these bytes of five pages are this release's
pub record Stores (b : List ℕ) (m : StoredRelease) : Type 0 where
  pub stored : IsStored m
  pub bytes : b ≡ stored_bytes m

-- what stands in place i of five pages
abbrev pub placed_at : List ℕ → ℕ → Placed
placed_at b i = let at = 256 + 64 * i in record { entry = manifest_entry_at b at; slot = slice_index b (at + 38); fresh = slice_index b (at + 39) == 1 }

-- the stored release that five pages say where they are one
abbrev pub stored_in : List ℕ → StoredRelease
stored_in b = record { number = u32_at b 0; placed = list_of (placed_at b) (slice_index b 4) }
