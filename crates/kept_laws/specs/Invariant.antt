-- What holds of each mote of layout 2 that frames of bytes lead to: what boots is whole, and so is what is linked.
use Rattle.std.specs.Prelude.{◌≡◌, ◌<◌, ℕ, List, [], length, slice_index_or, Option, Some, None}
use Rattle.component_package.specs.link.Link.{link_cause}
use Rattle.component_package.specs.packages.Manifest.{Release, IsRelease}
use Rattle.kept_definitions.specs.Stored.{StoredRelease, IsStored}
use Rattle.kept_definitions.specs.Kept.{Chosen, slots_for}
use Rattle.kept_definitions.specs.Sides.{Parts}
use Rattle.kept_definitions.specs.Sound.{IsSound}
use Rattle.kept_definitions.specs.Headline.{StandsFor}
use Rattle.component_package.specs.mote.Frames.{Frame}
use Rattle.kept_definitions.specs.Machine.{Mote, step, session_mote}
use Rattle.avr_reloc.specs.Field.{AreBytes}
use Rattle.mote_laws.specs.Sets.{AreByteSlots}
use Rattle.mote_laws.specs.Invariant.{AreByteFrames}
use Rattle.kept_laws.specs.Laws.{AreAll, IsPackageOf}
use Rattle.kept_laws.specs.Runs.{IsLinkedWhole}
use Rattle.kept_laws.specs.Formatted.{formatted_mote}

-- each of the 16 slots has 9,984 bytes
abbrev pub AreSlots : List (List ℕ) → Type 0
AreSlots slots = (i : ℕ) → i < 16 → length (slice_index_or slots i []) ≡ 9984

-- each component's package is its entry's
abbrev pub AreEntries : Chosen → Type 0
AreEntries c = AreAll (λ p x. IsPackageOf p.entry x) c.release.placed c.set

-- nothing comes in, or a later release than the current one, with the slots that it gets over it
abbrev pub ComesNext : StoredRelease → Option StoredRelease → Type 0
ComesNext current None = Unit {0}
ComesNext current (Some m) = (r : Release) × IsRelease r × (current.number < r.number) × (m ≡ slots_for current r)

-- the current set is its release's, nothing refuses it, what comes in is next, and what is linked is whole
pub record IsMote (s : Mote) : Type 0 where
  pub bytes : AreByteSlots s.inbox
  pub sizes : AreSlots s.inbox
  pub current : IsStored s.current.release
  pub set : AreEntries s.current
  pub free : link_cause s.current.set ≡ None
  pub incoming : ComesNext s.current.release s.incoming
  pub linked : IsLinkedWhole s

-- A formatted mote is one, and each step and each session keeps it so.
pub record MotesStayMotes : Type 0 where
  pub formatted : IsMote formatted_mote
  pub each : (s : Mote) (f : Frame) → AreBytes f.payload → IsMote s → IsMote (step s f).mote
  pub run : (s : Mote) (fs : List Frame) → AreByteFrames fs → IsMote s → IsMote (session_mote s fs)

-- What sound parts stand for is such a mote, where their inbox slots are whole and hold bytes.
abbrev pub SoundIsAMote : Type 0
SoundIsAMote = (p : Parts) (s : Mote) → IsSound p → StandsFor p s → AreByteSlots p.inbox → AreSlots p.inbox → IsMote s
