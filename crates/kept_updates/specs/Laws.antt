-- What the frames of an update are on the line, and what they do to a mote.
use Rattle.std.specs.Prelude.{◌≡◌, ℕ, ◌+◌, ◌*◌, ◌≤◌, true, false, List, [], ◌∷◌, length}
use Rattle.std.specs.List.{AllByRecursion}
use Rattle.avr_reloc.specs.Field.{AreBytes}
use Rattle.component_package.specs.declared.answer.Answer.TheVariants.{Booted, Ended}
use Rattle.component_package.specs.declared.frames.TheConstants.{END}
use Rattle.component_package.specs.mote.Frames.{Frame, Frames, stream_of}
use Rattle.kept_definitions.specs.Machine.{Mote, step, commits, answers_from, mote_from, commits_from}
use Rattle.kept_definitions.specs.Machine.{session_answers, session_mote, session_commits}
use Rattle.kept_laws.specs.Formatted.{formatted_mote}
use Rattle.kept_laws.specs.Invariant.{IsMote}
use Rattle.kept_updates.specs.Update.{Delivered, IsDelivered, IsUpdate, AgreeOnVersions, HasRelease, components_in, bare_frame}
use Rattle.kept_updates.specs.Update.{update_frames, update_answers}

-- ---- on the line

-- These frames on the line are bytes that say them and nothing more, at most one for each page of 16 components and four.
pub record AreLine (fs : List Frame) : Type 0 where
  pub frames : Frames (stream_of fs) fs []
  pub bytes : AreBytes (stream_of fs)
  pub count : length fs ≤ 16 * 39 + 4

pub record UpdatesAreFrames : Type 0 where
  pub line : (have number : ℕ) (olds news : List Delivered) → IsUpdate have olds number news → AreLine (update_frames have olds number news)
  -- where the mote has the release already, END alone
  pub none : (number : ℕ) (olds news : List Delivered) → update_frames number olds number news ≡ bare_frame END ∷ []

-- Where one table has the package of each component and version, the packages of any two releases agree.
abbrev pub OneTableAgrees : Type 0
OneTableAgrees = (table : ℕ → ℕ → List ℕ) (olds news : List Delivered)
    → AllByRecursion (λ d. d.bytes ≡ table d.component d.version) olds → AllByRecursion (λ d. d.bytes ≡ table d.component d.version) news
    → AgreeOnVersions olds news

-- ---- on a mote

-- the payloads of frames are bytes
abbrev pub AreByteFrames : List Frame → Type 0
AreByteFrames fs = AllByRecursion (λ f. AreBytes f.payload) fs

-- What is read from the line as frames are such frames.
abbrev pub FramesAreByteFrames : Type 0
FramesAreByteFrames = (bytes : List ℕ) (fs : List Frame) (rest : List ℕ) → Frames bytes fs rest → AreByteFrames fs

-- a mote that has the release
pub record IsAt (s : Mote) (number : ℕ) (ds : List Delivered) : Type 0 where
  pub mote : IsMote s
  pub has : HasRelease s number ds

-- the mote after an update: the new release waits for its boot, and its set is what the packages spell
pub record IsUpdated (s : Mote) (number : ℕ) (news : List Delivered) : Type 0 where
  pub at : IsAt s number news
  pub set : s.current.set ≡ components_in news
  pub standing : s.standing ≡ true

-- the frames are answered up to `linked`, `committed` and the end, the mote is then updated, and this was the one commit
pub record Installs (s : Mote) (have number : ℕ) (olds news : List Delivered) : Type 0 where
  pub answered : answers_from s (update_frames have olds number news) ≡ update_answers olds number news
  pub updated : IsUpdated (mote_from s (update_frames have olds number news)) number news
  pub chosen : commits_from s (update_frames have olds number news) ≡ (mote_from s (update_frames have olds number news)).current ∷ []

-- the same of a session, which boots first
pub record InstallsInSession (s : Mote) (have number : ℕ) (olds news : List Delivered) : Type 0 where
  pub answered : session_answers s (update_frames have olds number news) ≡ Booted have ∷ update_answers olds number news
  pub updated : IsUpdated (session_mote s (update_frames have olds number news)) number news
  pub chosen : session_commits s (update_frames have olds number news) ≡ (session_mote s (update_frames have olds number news)).current ∷ []

-- An update installs over every mote that has the older release, whatever comes in. Digests may be the same for different packages: what
-- comes in already may have this very manifest, and other bytes in its inbox slots.
pub record UpdatesInstall : Type 0 where
  pub calm : (s : Mote) (have number : ℕ) (olds news : List Delivered)
      → IsAt s have olds → s.standing ≡ false → IsUpdate have olds number news → Installs s have number olds news
  -- in a session a commit may stand at entry
  pub session : (s : Mote) (have number : ℕ) (olds news : List Delivered)
      → IsAt s have olds → IsUpdate have olds number news → InstallsInSession s have number olds news
  -- a mote that has the release already
  pub same : (s : Mote) (number : ℕ) (olds news : List Delivered)
      → (answers_from s (update_frames number olds number news) ≡ Ended ∷ []) × (mote_from s (update_frames number olds number news) ≡ s)

-- A mote whose current release has that number, and whose set is what the packages spell, has the release: one component has one spelling.
abbrev pub SetIsTheRelease : Type 0
SetIsTheRelease = (s : Mote) (number : ℕ) (ds : List Delivered)
    → IsMote s → s.current.release.number ≡ number → AllByRecursion IsDelivered ds → s.current.set ≡ components_in ds → IsAt s number ds

-- A formatted mote has release 0 of no packages, and whatever frames come, a mote has the release that it had until one commits. So an
-- update that was broken off can begin anew.
pub record ReleasesStay : Type 0 where
  pub formatted : IsAt formatted_mote 0 []
  pub each : (s : Mote) (f : Frame) (number : ℕ) (ds : List Delivered)
      → AreBytes f.payload → IsAt s number ds → commits s f ≡ false → IsAt (step s f).mote number ds
  pub run : (s : Mote) (fs : List Frame) (number : ℕ) (ds : List Delivered)
      → AreByteFrames fs → IsAt s number ds → commits_from s fs ≡ [] → IsAt (mote_from s fs) number ds
