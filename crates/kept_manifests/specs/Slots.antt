-- What a manifest with slots stands for.
use Rattle.std.specs.Prelude.{◌≤◌, ℕ, false, [], slice_index, slice_index_or}
use Rattle.component_package.specs.declared.manifest.Entry.{Entry}
use Rattle.component_package.specs.packages.Reading.{list_of}
use Rattle.kept_definitions.specs.Stored.{Placed, StoredRelease, IsStored}
use Rattle.kept_manifests.specs.declared.pages.SlotManifest.{SlotManifest}

abbrev pub no_entry : Entry
no_entry = record { component = 0; version = 0; length = 0; digest = [] }

-- entry i with its slot and its mark
abbrev pub place_of : SlotManifest → ℕ → Placed
place_of m i = record {
  entry = slice_index_or m.manifest.entries i no_entry;
  slot = slice_index m.slots i;
  fresh = slice_index_or m.fresh i false;
}

-- its first entries, as many as the count says
abbrev pub stored_of : SlotManifest → StoredRelease
stored_of m = record { number = m.manifest.release; placed = list_of (place_of m) m.manifest.count }

-- the condition on a manifest with slots that the code takes: its count is right, and its first entries are a stored release
pub record IsSlotManifest (m : SlotManifest) : Type 0 where
  pub count : m.manifest.count ≤ 16
  pub stored : IsStored (stored_of m)
