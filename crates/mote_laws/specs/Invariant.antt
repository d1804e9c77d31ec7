-- What holds of each mote that frames of bytes lead to: what boots is whole, and so is what is linked.
use Rattle.std.specs.Prelude.{ℕ, ◌≡◌, ◌<◌, false, List, Option, Some, None}
use Rattle.std.specs.List.{AllByRecursion}
use Rattle.avr_reloc.specs.Field.{AreBytes}
use Rattle.component_package.specs.link.Link.{link_cause}
use Rattle.component_package.specs.packages.Manifest.{Release, StoredRelease, IsRelease, IsStored}
use Rattle.component_package.specs.mote.Store.{HasSet, components_of, slots_for}
use Rattle.component_package.specs.mote.Sides.{Parts}
use Rattle.component_package.specs.mote.Sound.{IsSound}
use Rattle.component_package.specs.mote.Headline.{StandsFor}
use Rattle.component_package.specs.mote.Frames.{Frame, Frames}
use Rattle.component_package.specs.mote.Machine.{Mote, chosen_of, commits, step, session_mote}
use Rattle.mote_laws.specs.Runs.{IsLinkedWhole}
use Rattle.mote_laws.specs.Sets.{AreByteSlots}
use Rattle.mote_laws.specs.Formatted.{formatted_mote}

-- nothing comes in, or a later release than the current one, with the slots that it gets over it
abbrev pub ComesNext : StoredRelease → Option StoredRelease → Type 0
ComesNext current None = Unit {0}
ComesNext current (Some m) = (r : Release) × IsRelease r × (current.number < r.number) × (m ≡ slots_for current r)

-- the slots hold the current release's set, nothing refuses it, what comes in is next, and what is linked is whole
pub record IsMote (s : Mote) : Type 0 where
  pub bytes : AreByteSlots s.store
  pub current : IsStored s.current
  pub set : HasSet s.store s.current
  pub free : link_cause (components_of s.store s.current) ≡ None
  pub incoming : ComesNext s.current s.incoming
  pub linked : IsLinkedWhole s

-- the payloads of frames are bytes
abbrev pub AreByteFrames : List Frame → Type 0
AreByteFrames fs = AllByRecursion (λ f. AreBytes f.payload) fs

-- What is read from the line as frames are such frames.
abbrev pub FramesAreByteFrames : Type 0
FramesAreByteFrames = (bytes : List ℕ) (fs : List Frame) (rest : List ℕ) → Frames bytes fs rest → AreByteFrames fs

-- A formatted mote is one, each step and each session keeps it so, and what boots changes where a commit comes to stand, and nowhere else.
pub record MotesStayMotes : Type 0 where
  pub formatted : IsMote formatted_mote
  pub each : (s : Mote) (f : Frame) → AreBytes f.payload → IsMote s → IsMote (step s f).mote
  pub run : (s : Mote) (fs : List Frame) → AreByteFrames fs → IsMote s → IsMote (session_mote s fs)
  pub choice : (s : Mote) (f : Frame) → IsMote s → commits s f ≡ false → chosen_of (step s f).mote ≡ chosen_of s

-- What sound parts stand for is such a mote, where their slots hold bytes.
abbrev pub SoundIsAMote : Type 0
SoundIsAMote = (p : Parts) (s : Mote) → IsSound p → StandsFor p s → AreByteSlots p.slots → IsMote s
