-- What an update that kept tables have does to a mote.
use Rattle.std.specs.Prelude.{◌≡◌, ◌↔◌, ◌⊎◌, ℕ, ◌≤◌, ◌<◌, false, List, [], ◌∷◌, Some, None}
use Rattle.component_package.specs.mote.Frames.{Frames, stream_of}
use Rattle.component_package.specs.mote.Machine.{Mote}
use Rattle.release_rows.specs.Tables.{Tables, release_count}
use Rattle.release_rows.specs.Kept.{AreKept}
use Rattle.update_laws.specs.Update.{Delivered, IsUpdate, update_frames}
use Rattle.update_laws.specs.Laws.{IsAt, Installs, InstallsInSession}
use Rattle.release_updates.specs.Updates.{release_delivered, update_of, update_bytes}

-- These bytes on the line are the frames from the packages of release `have` to those of the mote's last release, and nothing more. Every
-- mote that has the older release, with whatever comes in, answers them up to `linked` and `committed` of the last release, and then has
-- the last release, byte for byte.
pub record BringsToLast (t : Tables) (mote : List ℕ) (have : ℕ) (bytes : List ℕ) : Type 0 where
  pub olds : List Delivered
  pub news : List Delivered
  pub older : release_delivered t mote have ≡ Some olds
  pub newer : release_delivered t mote (release_count t mote) ≡ Some news
  pub update : IsUpdate have olds (release_count t mote) news
  pub line : Frames bytes (update_frames have olds (release_count t mote) news) []
  pub calm : (s : Mote) → IsAt s have olds → s.standing ≡ false → Installs s have (release_count t mote) olds news
  -- in a session, which boots first, a commit may stand at entry
  pub session : (s : Mote) → IsAt s have olds → InstallsInSession s have (release_count t mote) olds news

-- The update of a mote over kept tables: from each release below its last, and from release 0, it brings every mote to the last.
pub record UpdatesOfRows : Type 0 where
  pub lower : (t : Tables) (mote : List ℕ) (have : ℕ) → AreKept t → have < release_count t mote
      → (bytes : List ℕ) × (update_bytes t mote have ≡ Some bytes) × BringsToLast t mote have bytes
  -- from the last release: END alone
  pub last : (t : Tables) (mote : List ℕ) → 1 ≤ release_count t mote → update_bytes t mote (release_count t mote) ≡ Some (8 ∷ 0 ∷ 0 ∷ [])
  -- none exactly where the mote has no release, or the one that it is asked from is above its last
  pub none : (t : Tables) (mote : List ℕ) (have : ℕ) → AreKept t
      → (update_bytes t mote have ≡ None) ↔ ((release_count t mote ≡ 0) ⊎ (release_count t mote < have))
