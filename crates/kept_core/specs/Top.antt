-- What the top call does, by its words.
use Rattle.std.specs.Prelude.{◌≡◌, ◌≢◌, ℕ, true, List, [], ◌∷◌, codes, Option, Some, None}
use Rattle.flash_pages.specs.State.{State}
use Rattle.flash_pages.specs.Board.{View, Told}
use Rattle.flash_pages.specs.Moments.{LeavesOnly}
use Rattle.component_package.specs.mote.Lines.{line_of}
use Rattle.kept_definitions.specs.Machine.{Mote, step}
use Rattle.kept_journal.specs.Steps.{Stands}
use Rattle.kept_core.specs.declared.command.Command.{Command}
use Rattle.kept_core.specs.declared.command.Command.TheVariants as commands
use Rattle.kept_core.specs.declared.status.Status.{Status}
use Rattle.kept_core.specs.declared.status.Status.TheVariants.{Ended}
use Rattle.kept_core.specs.Frames.{status_frame}
use Rattle.kept_core.specs.Running.{IsMain, ReadsFrames}
use Rattle.kept_core.specs.Commands.{code_of, ends_running, is_by_frames, ends_writing, ends_reading, SameFlash, SendsAll, SendsImage, TellsUnformatted}
use Rattle.kept_core.specs.Format.{FormatLeaves, HasFormatted}

-- ---- words

-- the name of a command, which is its one word
abbrev pub name_of : Command → List ℕ
name_of commands.Run = codes "run"
name_of commands.Format = codes "format"
name_of commands.Status = codes "status"
name_of commands.Image = codes "image"

abbrev pub words_of : Command → List (List ℕ)
words_of c = name_of c ∷ []

-- these words are no command
abbrev pub IsNoCommand : List (List ℕ) → Type 0
IsNoCommand words = (c : Command) → words ≢ words_of c

-- they are this one, or none
abbrev pub IsCommand : List (List ℕ) → Option Command → Type 0
IsCommand words (Some c) = words ≡ words_of c
IsCommand words None = IsNoCommand words

-- the word is this command's name, or none's
abbrev pub Names : List ℕ → Option Command → Type 0
Names word (Some c) = word ≡ name_of c
Names word None = (c : Command) → word ≢ name_of c

-- ---- commands, by how they ended

-- It was done, or a fault ended it; at most so many pages were programmed, and what a cut may leave is of three forms.
pub record IsFormat (ended : Status) (old new : View) : Type 0 where
  pub done : ended ≡ Ended → Told old (λ s. HasFormatted s new)
  pub each : Told old (λ s. LeavesOnly (FormatLeaves s) 2529 old new)
  pub ends : ends_writing ended ≡ true

-- It sends what S says of the mote, and no page is changed wherever power is cut. Unformatted ends it exactly where the board is so.
pub record IsReport (S : Mote → Type 0 → State → View → View → Type 0) (ended : Status) (old new : View) : Type 0 where
  pub sends : Told old (λ s. (t : Mote) → Stands s t → S t (ended ≡ Ended) s old new)
  pub keeps : Told old (λ s. LeavesOnly (SameFlash s) 0 old new)
  pub unformatted : Told old (λ s. TellsUnformatted ended s new)
  pub ends : ends_reading ended ≡ true

-- the line that answers the frame STATUS
abbrev pub SendsStatus : Mote → Type 0 → State → View → View → Type 0
SendsStatus t done s old new = SendsAll (line_of (step t status_frame).answer) done s old new

-- the exit status is that of such an end
abbrev pub Exits : (Status → View → View → Type 0) → ℕ → View → View → Type 0
Exits P status old new = (ended : Status) × (status ≡ code_of ended) × P ended old new

-- `run` is the headline, from a sound board. On any board that tells its state it ends with Unformatted exactly where there is nothing to boot, and on any
-- that tells its bytes, whatever it holds, by what it read, where neither that nor a fault ended it.
pub record IsRun (ended : Status) (old new : View) : Type 0 where
  pub main : IsMain (code_of ended) old new
  pub unformatted : Told old (λ s. TellsUnformatted ended s new)
  pub reads : (l : List ℕ) → old.left ≡ Some l → is_by_frames ended ≡ true → ReadsFrames l ended new
  pub ends : ends_running ended ≡ true

-- what a command does, with this exit status
abbrev pub Does : Command → ℕ → View → View → Type 0
Does commands.Run status old new = Exits IsRun status old new
Does commands.Format status old new = Exits IsFormat status old new
Does commands.Status status old new = Exits (IsReport SendsStatus) status old new
Does commands.Image status old new = Exits (IsReport SendsImage) status old new
