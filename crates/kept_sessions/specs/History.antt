-- What a run's answers tell of the mote that they lead to.
use Rattle.std.specs.Prelude.{◌≡◌, ℕ, ◌<◌, ◌≤◌, ◌^◌, false, List, [], ◌∷◌, ◌++◌, Contains}
use Rattle.std.specs.List.{flat_map}
use Rattle.component_package.specs.declared.answer.Answer.{Answer}
use Rattle.component_package.specs.declared.answer.Answer.TheVariants.{Committed, Booted}
use Rattle.component_package.specs.mote.Lines.{line_of}
use Rattle.component_package.specs.mote.Headline.{HasLine, EndsWithLine}
use Rattle.component_package.specs.mote.Frames.{Frame}
use Rattle.kept_definitions.specs.Machine.{Mote, step, commits_from, mote_from, answers_from, session_commits, session_mote}
use Rattle.kept_definitions.specs.Kept.{Chosen}
use Rattle.kept_laws.specs.Runs.{IsRising}

-- the lines of a run
abbrev pub lines_from : Mote → List Frame → List ℕ
lines_from s fs = flat_map line_of (answers_from s fs)

-- what boots first, and then what the commits of a run made current
abbrev pub history : Mote → List Frame → List Chosen
history s fs = s.current ∷ commits_from s fs

-- a release's number fits its four bytes
abbrev pub HasSmallNumber : Mote → Type 0
HasSmallNumber s = s.current.release.number < 2 ^ 32

-- Numbers of the release that boots, over a run from a mote that rises.
pub record NumbersRise : Type 0 where
  pub step : (s : Mote) (f : Frame) → IsRising s → s.current.release.number ≤ (step s f).mote.current.release.number
  pub run : (s : Mote) (fs : List Frame) → IsRising s → s.current.release.number ≤ (mote_from s fs).current.release.number
  -- it is at least that of each `committed` so far
  pub committed : (s : Mote) (fs : List Frame) (front back : List Answer) (n : ℕ) → IsRising s → answers_from s fs ≡ front ++ Committed n ∷ back
      → n ≤ (mote_from s fs).current.release.number
  -- and that of the last `booted`, if nothing was answered since
  pub booted : (s : Mote) (fs : List Frame) (front back : List Answer) (n : ℕ) → answers_from s fs ≡ front ++ Booted n ∷ back → flat_map line_of back ≡ []
      → ((mote_from s fs).current.release.number ≡ n) × ((mote_from s fs).standing ≡ false)

-- What bytes that are a first part of a run's lines tell of the mote after the run.
pub record LinesTellTheMote : Type 0 where
  pub committed : (s : Mote) (fs : List Frame) (sent owed : List ℕ) (n : ℕ) → IsRising s → HasSmallNumber (mote_from s fs) → sent ++ owed ≡ lines_from s fs
      → HasLine (line_of (Committed n)) sent → n ≤ (mote_from s fs).current.release.number
  pub booted : (s : Mote) (fs : List Frame) (n : ℕ) → HasSmallNumber (mote_from s fs) → EndsWithLine (line_of (Booted n)) (lines_from s fs)
      → ((mote_from s fs).current.release.number ≡ n) × ((mote_from s fs).standing ≡ false)

-- What boots after any first part of a run is in the history of the whole, of every mote and whatever frames come.
pub record ChoicesAreInHistory : Type 0 where
  pub part : (s : Mote) (fs gs : List Frame) → Contains (history s (fs ++ gs)) (mote_from s fs).current
  pub session : (s : Mote) (fs : List Frame) → Contains (s.current ∷ session_commits s fs) (session_mote s fs).current
