-- A session by its turns: each reads one frame at most, serves it and sends its line.
use Rattle.std.specs.Prelude.{◌≡◌, ℕ, ◌+◌, ◌≤◌, ◌==◌, if◌then◌else◌, List, [], ◌∷◌, ◌++◌, IsTrue, false, length, Option, Some, None}
use Rattle.std.specs.List.{sum_by}
use Rattle.flash_pages.specs.State.{State}
use Rattle.flash_pages.specs.Board.{View}
use Rattle.flash_pages.specs.Moments.{LeavesOnly}
use Rattle.kept_definitions.specs.Headline.{shown_parts, StandsFor, IsHeadline}
use Rattle.component_package.specs.mote.Frames.{Frame, stream_of, OnlyLastEnds, IsPartial, has_end}
use Rattle.kept_definitions.specs.Machine.{Mote, mote_from}
use Rattle.component_package.specs.mote.Machine.{boot_frame}
use Rattle.kept_sessions.specs.History.{lines_from}
use Rattle.kept_sessions.specs.Kept.{Leaves}
use Rattle.kept_sessions.specs.Sessions.{shown, LeftSince, IsBetween}

-- how many programs the work of a frame takes at most: MANIFEST, PIECE, LINK, COMMIT, BOOT and ABORT; any other frame takes none. BOOT programs 480
-- pages of the image, 39 pages of each of 16 table slots, and 6 gates.
abbrev pub programs_of : Frame → ℕ
programs_of f =
    if f.kind == 1 then 10
    else if f.kind == 2 then 4
    else if f.kind == 3 then 771
    else if f.kind == 4 then 1
    else if f.kind == 5 then 1110
    else if f.kind == 7 then 4
    else 0

-- and that of all these frames
abbrev pub all_programs_of : List Frame → ℕ
all_programs_of fs = sum_by programs_of fs

-- one frame or none
abbrev pub frames_of : Option Frame → List Frame
frames_of None = []
frames_of (Some f) = f ∷ []

-- what a cut in a turn may leave
abbrev pub LeavesTurn : Mote → Option Frame → State → State → Type 0
LeavesTurn t None z x = x ≡ z
LeavesTurn t (Some f) z x = Leaves t f (shown z) (shown x)

-- A turn from the mote t and the state z, after so many frames, with these bytes left to others before it; it goes on, or ends the session. `ends` is what
-- the caller knows of the frame that it read, of the rest and of the bytes left.
pub record IsTurn (t : Mote) (count : ℕ) (z : State) (l : List ℕ) (goes : Type 0) (calm : Type 0) (ends : List Frame → List ℕ → List ℕ → Type 0) (old new : View) : Type 0 where
  pub frame : Option Frame
  pub rest : List ℕ
  pub left : List ℕ
  pub owed : List ℕ
  pub end : State
  pub told : new.state ≡ Some end
  pub told_left : new.left ≡ Some left
  pub few : count ≤ 1000000 → count + length (frames_of frame) ≤ 1000000
  pub read : l ≡ stream_of (frames_of frame) ++ (rest ++ left)
  pub each : OnlyLastEnds (frames_of frame)
  pub partial : IsPartial rest
  pub after_end : IsTrue (has_end (frames_of frame)) → rest ≡ []
  pub budget : count + length (frames_of frame) ≡ 1000000 → length rest ≤ 1
  pub most : ℕ
  pub leaves : LeavesOnly (LeavesTurn t frame z) most old new
  pub bounded : most ≤ all_programs_of (frames_of frame)
  pub lines : z.sent ++ lines_from t (frames_of frame) ≡ end.sent ++ owed
  -- where the session goes on, a frame was served that isn't END
  pub served : goes → (f : Frame) × (frame ≡ Some f) × (has_end (f ∷ []) ≡ false) × (rest ≡ [])
  -- and where it goes on, or no fault rose, all was sent and done
  pub went : goes → (owed ≡ []) × StandsFor (shown_parts (shown end)) (mote_from t (frames_of frame))
  pub exact : calm → (owed ≡ []) × StandsFor (shown_parts (shown end)) (mote_from t (frames_of frame))
  pub ended : ends (frames_of frame) rest left

-- A session between two turns, after its boot and these frames, from the mote s, the state e and the bytes l.
pub record IsSession (s : Mote) (e : State) (l : List ℕ) (frames : List Frame) (z : State) (left : List ℕ) (old now : View) : Type 0 where
  pub few : length frames ≤ 1000000
  pub told_left : now.left ≡ Some left
  pub read : l ≡ stream_of frames ++ left
  pub each : OnlyLastEnds frames
  pub open_end : has_end frames ≡ false
  pub between : IsBetween s e (boot_frame ∷ frames) z old now
  pub programs : now.all_programs ≤ old.all_programs + all_programs_of (boot_frame ∷ frames)

-- A session that ended: it read these frames, this rest and nothing more, it has its headline, and it programmed no more than its frames take.
pub record IsOver (s : Mote) (e : State) (l : List ℕ) (frames : List Frame) (rest left : List ℕ) (end : State) (calm : Type 0) (old new : View) : Type 0 where
  pub taken : List ℕ
  pub took : l ≡ taken ++ left
  pub holds : IsHeadline s (shown e) (shown end) (LeftSince old new) calm taken
  pub frames_are : holds.frames ≡ frames
  pub rest_is : holds.rest ≡ rest
  pub programs : new.all_programs ≤ old.all_programs + all_programs_of (boot_frame ∷ frames)
