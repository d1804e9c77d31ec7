-- Worked updates over tables.
use Rattle.std.specs.Prelude.{◌≡◌, ℕ, List, [], ◌∷◌, ◌++◌, Some, None}
use Rattle.release_rows.specs.declared.part.Numbered.{Numbered}
use Rattle.release_rows.specs.Tables.{Tables}
use Rattle.update_laws.specs.Update.{Delivered, update_frames}
use Rattle.update_laws.specs.Rows.{sender_bytes, radio_bytes, later_radio_bytes, both, replaced, first_update_bytes}
use Rattle.release_updates.specs.Updates.{update_of, update_bytes}

-- the names m1 and m2, and of two components
abbrev pub first_mote : List ℕ
first_mote = 109 ∷ 49 ∷ []

abbrev pub second_mote : List ℕ
second_mote = 109 ∷ 50 ∷ []

abbrev pub part : ℕ → ℕ → Numbered
part component version = record { component = component; version = version }

-- two components of one version each, and a release of both for the first mote
abbrev pub worked : Tables
worked = record {
  symbols = record { number = 16; name = 112 ∷ [] } ∷ record { number = 17; name = 113 ∷ [] } ∷ record { number = 18; name = 114 ∷ [] } ∷ [];
  components = record { number = 1; name = 115 ∷ [] } ∷ record { number = 2; name = 116 ∷ [] } ∷ [];
  versions = record { component = 1; version = 1; bytes = sender_bytes } ∷ record { component = 2; version = 1; bytes = radio_bytes } ∷ [];
  releases = record { mote = first_mote; number = 1; parts = part 1 1 ∷ part 2 1 ∷ [] } ∷ [];
  acks = [];
  keys = [];
}

-- a second release, with the second component first and in a later version; its package is there, or it isn't
abbrev pub with_second : Tables
with_second = record worked { releases = worked.releases ++ record { mote = first_mote; number = 2; parts = part 2 2 ∷ part 1 1 ∷ [] } ∷ [] }

abbrev pub with_package : Tables
with_package = record with_second { versions = with_second.versions ++ record { component = 2; version = 2; bytes = later_radio_bytes } ∷ [] }

-- the first component's package is gone
abbrev pub without_first : Tables
without_first = record with_package { versions = record { component = 2; version = 1; bytes = radio_bytes } ∷ record { component = 2; version = 2; bytes = later_radio_bytes } ∷ [] }

pub record WorkedUpdates : Type 0 where
  -- from nothing, from the last release, from one above it, and for a mote without a release
  pub first : update_bytes worked first_mote 0 ≡ Some first_update_bytes
  pub same : update_bytes worked first_mote 1 ≡ Some (8 ∷ 0 ∷ 0 ∷ [])
  pub above : update_bytes worked first_mote 2 ≡ None
  pub other : update_bytes worked second_mote 0 ≡ None
  -- to the second release from the first, and from nothing
  pub second : update_of with_package first_mote 1 ≡ Some (update_frames 1 both 2 replaced)
  pub whole : update_of with_package first_mote 0 ≡ Some (update_frames 0 [] 2 replaced)
  -- a package that the last release wants isn't there
  pub missing : update_of with_second first_mote 1 ≡ None
  pub gone : update_of without_first first_mote 1 ≡ None
  -- where the last release is had already its packages aren't asked for
  pub unasked : update_bytes with_second first_mote 2 ≡ Some (8 ∷ 0 ∷ 0 ∷ [])
