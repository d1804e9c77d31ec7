-- What a session keeps of a board that tells its state, between two frames and at its end.
use Rattle.std.specs.Prelude.{◌≡◌, ℕ, ◌≤◌, List, ◌++◌, Some}
use Rattle.flash_pages.specs.State.{State}
use Rattle.flash_pages.specs.Board.{View}
use Rattle.component_package.specs.mote.Headline.{Shown}
use Rattle.kept_definitions.specs.Headline.{IsKept}
use Rattle.component_package.specs.mote.Frames.{Frame}
use Rattle.kept_definitions.specs.Machine.{Mote}
use Rattle.kept_sessions.specs.History.{history}
use Rattle.kept_sessions.specs.Kept.{IsServing}

-- what a state shows
abbrev pub shown : State → Shown
shown z = record { prog = z.prog; ext = z.ext; sent = z.sent }

-- what shows in the states that a cut may have left since old
abbrev pub LeftSince : View → View → Shown → Type 0
LeftSince old new y = (z : State) × new.left_since old.moment z × (y ≡ shown z)

-- Each state that a cut may have left since old, when the board held e, is kept, by the frames read so far.
pub record AllKept (s : Mote) (e : State) (frames : List Frame) (old now : View) : Type 0 where
  pub later : old.moment ≤ now.moment
  pub kept : (x : State) (sent : List ℕ) → now.left_since old.moment x → x.sent ≡ e.sent ++ sent → IsKept (history s frames) (shown x) sent
  pub appends : (x : State) → now.left_since old.moment x → (sent : List ℕ) × (x.sent ≡ e.sent ++ sent)

-- between two frames, where the board holds z
pub record IsBetween (s : Mote) (e : State) (served : List Frame) (z : State) (old now : View) : Type 0 where
  pub told : now.state ≡ Some z
  pub serving : IsServing s (shown e) served (shown z)
  pub all : AllKept s e served old now
