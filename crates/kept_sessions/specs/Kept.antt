-- What a session keeps frame by frame, wherever power is cut.
use Rattle.std.specs.Prelude.{◌≡◌, ◌≢◌, ◌⊎◌, Bool, true, false, if◌then◌else◌, List, ℕ, [], ◌∷◌, ◌++◌, Contains}
use Rattle.component_package.specs.declared.frames.TheConstants.{COMMIT}
use Rattle.kept_definitions.specs.Sound.{IsSound}
use Rattle.component_package.specs.mote.Lines.{line_of}
use Rattle.component_package.specs.mote.Headline.{Shown}
use Rattle.kept_definitions.specs.Headline.{shown_parts, StandsFor, Chooses, IsKept}
use Rattle.component_package.specs.mote.Frames.{Frame}
use Rattle.kept_definitions.specs.Machine.{Mote, step, mote_from}
use Rattle.kept_laws.specs.Steps.{with_gate, other_go, Keeps}
use Rattle.kept_laws.specs.Runs.{IsRising}
use Rattle.kept_sessions.specs.History.{history, lines_from}

-- COMMIT
abbrev pub commit_frame : Frame
commit_frame = record { kind = COMMIT; payload = [] }

-- Between two frames of a session: these were served, and all their lines were sent.
pub record IsServing (s : Mote) (entry : Shown) (served : List Frame) (now : Shown) : Type 0 where
  pub rising : IsRising s
  pub sound : IsSound (shown_parts now)
  pub stands : StandsFor (shown_parts now) (mote_from s served)
  pub sent : now.sent ≡ entry.sent ++ lines_from s served
  pub chosen : Contains (history s served) (mote_from s served).current

-- What a cut may leave of the work of a frame, the mote being t and the board y before it: a sound mote, which chooses what it chose or what it will;
-- program flash is written only for a commit that stands, and nothing is sent.
pub record Works (t : Mote) (frame : Frame) (y x : Shown) : Type 0 where
  pub sound : IsSound (shown_parts x)
  pub chosen : Chooses (shown_parts x) t.current ⊎ Chooses (shown_parts x) (step t frame).mote.current
  pub prog : t.standing ≡ false → x.prog ≡ y.prog
  pub sent : x.sent ≡ y.sent

-- What a cut may leave while a frame is served: as its work does, but that a first part of its line was sent, and some of it only where all is done that
-- it says.
pub record Leaves (t : Mote) (frame : Frame) (y x : Shown) : Type 0 where
  pub sound : IsSound (shown_parts x)
  pub chosen : Chooses (shown_parts x) t.current ⊎ Chooses (shown_parts x) (step t frame).mote.current
  pub prog : t.standing ≡ false → x.prog ≡ y.prog
  pub part : List ℕ
  pub owed : List ℕ
  pub line : part ++ owed ≡ line_of (step t frame).answer
  pub sent : x.sent ≡ y.sent ++ part
  pub done : part ≢ [] → StandsFor (shown_parts x) (step t frame).mote

-- How such states come about: by the flash calls of a frame, and by the sends of its line.
pub record FramesLeave : Type 0 where
  pub starts : (t : Mote) (f : Frame) (y : Shown) → IsSound (shown_parts y) → StandsFor (shown_parts y) t → Works t f y y
  -- more steps that keep a mote sound, and its choice
  pub keeps : (t : Mote) (f : Frame) (y m x : Shown) → Works t f y m → Keeps (shown_parts m) (shown_parts x) → (t.standing ≡ false → x.prog ≡ m.prog) → x.sent ≡ m.sent
      → Works t f y x
  -- a step that leaves the mote as before the frame or as after it
  pub either : (t : Mote) (f : Frame) (y x : Shown) (b : Bool) → IsSound (shown_parts x) → StandsFor (shown_parts x) (if b then (step t f).mote else t)
      → (t.standing ≡ false → x.prog ≡ y.prog) → x.sent ≡ y.sent → Works t f y x
  -- the program of the other side's Go gate, done or cut
  pub commits : (t : Mote) (y x : Shown) (b : Bool) → IsSound (shown_parts y) → StandsFor (shown_parts y) t → t.linked ≡ true
      → shown_parts x ≡ with_gate (other_go (shown_parts y)) b (shown_parts y) → x.prog ≡ y.prog → x.sent ≡ y.sent → Works t commit_frame y x
  pub works : (t : Mote) (f : Frame) (y x : Shown) → Works t f y x → Leaves t f y x
  pub sends : (t : Mote) (f : Frame) (y z x : Shown) (part owed : List ℕ) → Works t f y z → StandsFor (shown_parts z) (step t f).mote
      → x.prog ≡ z.prog → x.ext ≡ z.ext → part ++ owed ≡ line_of (step t f).answer → x.sent ≡ z.sent ++ part → Leaves t f y x

-- Each state that a cut may leave is kept, frame by frame.
pub record FramesAreKept : Type 0 where
  -- at entry
  pub begins : (s : Mote) (entry : Shown) → IsSound (shown_parts entry) → StandsFor (shown_parts entry) s → IsServing s entry [] entry
  pub entry : (s : Mote) (entry x : Shown) (sent : List ℕ) → IsServing s entry [] entry → x ≡ entry → x.sent ≡ entry.sent ++ sent → IsKept (history s []) x sent
  -- what was kept stays so, whatever comes
  pub more : (s : Mote) (served more : List Frame) (x : Shown) (sent : List ℕ) → IsKept (history s served) x sent → IsKept (history s (served ++ more)) x sent
  -- while a frame is served
  pub frame : (s : Mote) (entry y : Shown) (served : List Frame) (f : Frame) (x : Shown) (sent : List ℕ) → IsServing s entry served y
      → Leaves (mote_from s served) f y x → x.sent ≡ entry.sent ++ sent → IsKept (history s (served ++ f ∷ [])) x sent
  pub appends : (s : Mote) (entry y : Shown) (served : List Frame) (f : Frame) (x : Shown) → IsServing s entry served y
      → Leaves (mote_from s served) f y x → (sent : List ℕ) × (x.sent ≡ entry.sent ++ sent)
  -- and behind it, where its whole line was sent
  pub next : (s : Mote) (entry y : Shown) (served : List Frame) (f : Frame) (z : Shown) → IsServing s entry served y
      → IsSound (shown_parts z) → StandsFor (shown_parts z) (step (mote_from s served) f).mote → z.sent ≡ y.sent ++ line_of (step (mote_from s served) f).answer
      → IsServing s entry (served ++ f ∷ []) z
