-- What a session does to its board, from the bytes that it reads: the headline as the contract of a call.
use Rattle.std.specs.Prelude.{◌≡◌, ◌≢◌, ℕ, ◌+◌, ◌≤◌, List, [], ◌∷◌, ◌++◌, Bool, true, false, IsTrue, ◌==◌, if◌then◌else◌, Option, Some, None, length}
use Rattle.flash_pages.specs.State.{State}
use Rattle.flash_pages.specs.Board.{View, Rose}
use Rattle.component_package.specs.mote.Frames.{Frame, Frames, stream_of, OnlyLastEnds, IsPartial, is_too_long, has_end}
use Rattle.kept_definitions.specs.Headline.{IsHeadline}
use Rattle.kept_definitions.specs.Machine.{Mote}
use Rattle.component_package.specs.mote.Machine.{boot_frame}
use Rattle.kept_sessions.specs.Sessions.{shown, LeftSince}
use Rattle.kept_sessions.specs.Turns.{all_programs_of, frames_of, IsTurn}
use Rattle.kept_laws.specs.Standing.{IsUnformatted}
use Rattle.kept_journal.specs.Steps.{parts, Stands}
use Rattle.kept_core.specs.declared.status.Status.{Status}
use Rattle.kept_core.specs.declared.status.Status.TheVariants.{Unformatted}
use Rattle.kept_core.specs.Serving.{StaysFormatted}
use Rattle.kept_core.specs.Commands.{code_of, is_by_frames}

-- ---- statuses

-- The status of a session that read these frames and this rest, so many frames in all: 0 after END or where the input ended between frames, 7 where a
-- byte came after the last frame of a session, 3 after a head with too great a length, 2 where the input ended inside a frame.
abbrev pub status_of : ℕ → List Frame → List ℕ → ℕ
status_of count frames rest =
    if has_end frames then 0 else
    (if length rest == 0 then 0 else
    (if count == 1000000 then 7 else
    (if is_too_long rest then 3 else 2)))

-- 4 comes only where flash faults rose and 5 only where line faults rose; with another status the count is as it was
pub record TellsFaults (status : ℕ) (old new : View) : Type 0 where
  pub flash : status ≡ 4 → Rose old.flash_faults new.flash_faults
  pub flash_kept : status ≢ 4 → new.flash_faults ≡ old.flash_faults
  pub line : status ≡ 5 → Rose old.line_faults new.line_faults
  pub line_kept : status ≢ 5 → new.line_faults ≡ old.line_faults

-- The status is by the frames and the rest. The input has ended where it ended inside a frame or between frames; past the last frame of a session one
-- byte is read.
pub record EndsWell (count : ℕ) (frames : List Frame) (rest left : List ℕ) (status : ℕ) : Type 0 where
  pub status_is : status ≡ status_of count frames rest
  pub input : status ≡ 0 → has_end frames ≡ false → left ≡ []
  pub cut : status ≡ 2 → left ≡ []
  pub budget : status ≡ 7 → length rest ≡ 1

-- ---- a turn

-- the session goes on
abbrev pub Goes : Option ℕ → Type 0
Goes status = status ≡ None

-- no fault ended the session with this status
pub record IsCalm (status : Option ℕ) : Type 0 where
  pub flash : status ≢ Some 4
  pub line : status ≢ Some 5

-- where a turn after so many frames ended the session without a fault, the status is by what it read
abbrev pub Ends : ℕ → Option ℕ → List Frame → List ℕ → List ℕ → Type 0
Ends count status frames rest left = (n : ℕ) → status ≡ Some n → IsCalm status → EndsWell (count + length frames) frames rest left n

-- a turn after so many frames, from a state that stands for the mote t, and these bytes left to receive
abbrev pub TurnOf : ℕ → Option ℕ → State → List ℕ → Mote → View → View → Type 0
TurnOf count status z l t old new = IsTurn t count z l (Goes status) (IsCalm status) (Ends count status) old new

abbrev pub TakesTurn : ℕ → Option ℕ → View → View → Type 0
TakesTurn count status old new = (z : State) (l : List ℕ) (t : Mote) → old.state ≡ Some z → old.left ≡ Some l → Stands z t → TurnOf count status z l t old new

-- ---- a turn on any board

-- it goes on, or ended by what was read
abbrev pub goes_by_frames : Option Status → Bool
goes_by_frames None = true
goes_by_frames (Some s) = is_by_frames s

-- A turn after so many frames, with these bytes left to read before it: it read one frame or none, and a rest. Where the session ended, the status is by
-- them; where it goes on, a frame was read that isn't END.
pub record ReadsTurn (count : ℕ) (status : Option Status) (l : List ℕ) (new : View) : Type 0 where
  pub frame : Option Frame
  pub rest : List ℕ
  pub left : List ℕ
  pub told_left : new.left ≡ Some left
  pub read : l ≡ stream_of (frames_of frame) ++ (rest ++ left)
  pub each : OnlyLastEnds (frames_of frame)
  pub partial : IsPartial rest
  pub after_end : IsTrue (has_end (frames_of frame)) → rest ≡ []
  pub goes : status ≡ None → (length (frames_of frame) ≡ 1) × (has_end (frames_of frame) ≡ false) × (rest ≡ [])
  pub ends : (s : Status) → status ≡ Some s → EndsWell (count + length (frames_of frame)) (frames_of frame) rest left (code_of s)

-- a turn from z doesn't end the session for want of anything to boot, and takes nothing to boot away, where there is something
pub record StaysTold (status : Option Status) (z : State) (new : View) : Type 0 where
  pub only : status ≡ Some Unformatted → IsUnformatted (parts z)
  pub stays : status ≡ None → StaysFormatted z new

-- ---- a session

-- A session on any board that ended by what it read: these frames, and this rest.
pub record ReadsFrames (l : List ℕ) (status : Status) (new : View) : Type 0 where
  pub frames : List Frame
  pub rest : List ℕ
  pub taken : List ℕ
  pub left : List ℕ
  pub told_left : new.left ≡ Some left
  pub took : l ≡ taken ++ left
  pub read : Frames taken frames rest
  pub ends : EndsWell (length frames) frames rest left (code_of status)

-- neither count of faults rose
pub record NoFault (old new : View) : Type 0 where
  pub flash : Rose old.flash_faults new.flash_faults → ⊥
  pub line : Rose old.line_faults new.line_faults → ⊥

-- The headline, of a session that ended with this status, from a told state e that stands for the mote s, and from these bytes left to receive. Every
-- state that a cut may have left since entry counts, the bytes that it took are what is left no more, and it was calm where neither count of faults rose.
pub record HasHeadline (s : Mote) (e : State) (l : List ℕ) (status : ℕ) (old new : View) : Type 0 where
  pub exit : State
  pub taken : List ℕ
  pub left : List ℕ
  pub told : new.state ≡ Some exit
  pub told_left : new.left ≡ Some left
  pub took : l ≡ taken ++ left
  pub holds : IsHeadline s (shown e) (shown exit) (LeftSince old new) (NoFault old new) taken
  -- where no fault rose, the status is by the frames and the rest
  pub ends : NoFault old new → EndsWell (length holds.frames) holds.frames holds.rest left status
  -- and it programmed no more pages than its boot and its frames take
  pub programs : new.all_programs ≤ old.all_programs + all_programs_of (boot_frame ∷ holds.frames)

-- it holds of a session from any state that is sound
abbrev pub IsMain : ℕ → View → View → Type 0
IsMain status old new = (s : Mote) (e : State) (l : List ℕ) → old.state ≡ Some e → old.left ≡ Some l → Stands e s → HasHeadline s e l status old new
