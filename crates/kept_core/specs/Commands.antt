-- What the commands that change no flash do, and how a command ends.
use Rattle.std.specs.Prelude.{◌≡◌, ◌⊎◌, ℕ, Bool, true, false, if◌then◌else◌, List, Some}
use Rattle.std.specs.List.{concat}
use Rattle.flash_pages.specs.State.{State, with_sent}
use Rattle.flash_pages.specs.Board.{View}
use Rattle.flash_pages.specs.Moments.{LeavesOnly}
use Rattle.component_package.specs.link.Pages.{IsPages}
use Rattle.component_package.specs.mote.Sides.{pages_from}
use Rattle.kept_definitions.specs.Machine.{Mote}
use Rattle.kept_laws.specs.Standing.{IsUnformatted}
use Rattle.kept_journal.specs.Steps.{parts}
use Rattle.kept_core.specs.declared.status.Status.{Status}
use Rattle.kept_core.specs.declared.status.Status.TheVariants.{Ended, CutFrame, TooLong, FlashFault, LineFault, Unformatted, Budget, NoCommand}
use Rattle.kept_core.specs.Sending.{SendsBut}

-- the exit status
abbrev pub code_of : Status → ℕ
code_of Ended = 0
code_of CutFrame = 2
code_of TooLong = 3
code_of FlashFault = 4
code_of LineFault = 5
code_of Unformatted = 6
code_of Budget = 7
code_of NoCommand = 64

-- a session ended with it
abbrev pub ends_running : Status → Bool
ends_running Ended = true
ends_running CutFrame = true
ends_running TooLong = true
ends_running FlashFault = true
ends_running LineFault = true
ends_running Unformatted = true
ends_running Budget = true
ends_running NoCommand = false

-- a session ended with it by what it read
abbrev pub is_by_frames : Status → Bool
is_by_frames Ended = true
is_by_frames CutFrame = true
is_by_frames TooLong = true
is_by_frames FlashFault = false
is_by_frames LineFault = false
is_by_frames Unformatted = false
is_by_frames Budget = true
is_by_frames NoCommand = false

-- it was done, or a fault ended it
abbrev pub ends_writing : Status → Bool
ends_writing Ended = true
ends_writing CutFrame = false
ends_writing TooLong = false
ends_writing FlashFault = true
ends_writing LineFault = true
ends_writing Unformatted = false
ends_writing Budget = false
ends_writing NoCommand = false

-- the same, or the board was found unformatted
abbrev pub ends_reading : Status → Bool
ends_reading Ended = true
ends_reading CutFrame = false
ends_reading TooLong = false
ends_reading FlashFault = true
ends_reading LineFault = true
ends_reading Unformatted = true
ends_reading Budget = false
ends_reading NoCommand = false

-- both flashes are as they were
pub record SameFlash (s x : State) : Type 0 where
  pub prog : x.prog ≡ s.prog
  pub ext : x.ext ≡ s.ext

-- a first part of the piece was sent, and no page was changed
abbrev pub SendsSome : List ℕ → State → State → Type 0
SendsSome piece s x = (owed : List ℕ) × SendsBut owed piece s x

-- In each state that a cut may have left since old a first part of the piece was sent and no page was changed; and all of it was sent where it was done.
pub record SendsAll (piece : List ℕ) (done : Type 0) (s : State) (old new : View) : Type 0 where
  pub each : LeavesOnly (SendsSome piece s) 0 old new
  pub whole : done → new.state ≡ Some (with_sent s piece)

-- so of the image of the set that the mote boots, and 0xFF behind it
pub record SendsImage (t : Mote) (done : Type 0) (s : State) (old new : View) : Type 0 where
  pub pages : List (List ℕ)
  pub are : IsPages t.current.set pages
  pub sends : SendsAll (concat pages) done s old new

-- the pages of the staged image, or of that in program flash
abbrev pub image_pages : Bool → State → List (List ℕ)
image_pages staged s = if staged then pages_from 306 480 s.ext else s.prog

-- Unformatted comes exactly where s is so and no fault of the flash came first, and then nothing is sent.
pub record TellsUnformatted (status : Status) (s : State) (new : View) : Type 0 where
  pub only : status ≡ Unformatted → IsUnformatted (parts s)
  pub always : IsUnformatted (parts s) → (status ≡ Unformatted) ⊎ (status ≡ FlashFault)
  pub nothing : status ≡ Unformatted → new.state ≡ Some s
