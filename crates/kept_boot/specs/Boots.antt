-- What a boot does.
use Rattle.std.specs.Prelude.{◌≡◌, ◌≢◌, ◌≤◌, ◌+◌, ◌&&◌, ◌||◌, nat_le, ℕ, Bool, true, false, if◌then◌else◌, slice_index_or, List, [], ◌∷◌, Some, Result, Ok, Err}
use Rattle.std.specs.List.{list_any}
use Rattle.flash_pages.specs.State.{State, Place, Prog, Ext}
use Rattle.flash_pages.specs.Board.{View}
use Rattle.component_package.specs.declared.areas.TheConstants.{STAGED, IMAGE_PAGES}
use Rattle.component_package.specs.link.Pages.{IsPages}
use Rattle.component_package.specs.mote.Sides.{pages_from}
use Rattle.kept_definitions.specs.Stored.{Placed, StoredRelease, Stores, stored_in}
use Rattle.kept_definitions.specs.Sides.{Parts, chosen_side, is_pending}
use Rattle.kept_definitions.specs.Headline.{Chooses}
use Rattle.kept_definitions.specs.Machine.{Mote}
use Rattle.kept_laws.specs.Standing.{IsUnformatted}
use Rattle.kept_journal.specs.Steps.{parts, finished, Pends}
use Rattle.kept_store.specs.Tables.{with_run, table_pages}
use Rattle.kept_boot.specs.declared.BootFault.{BootFault}
use Rattle.kept_boot.specs.declared.BootFault.TheVariants.{Fault, Unformatted}

-- ---- what a boot makes of a state

-- the state with the staged image in program flash
abbrev pub copied : State → State
copied s = record s { prog = pages_from STAGED IMAGE_PAGES s.ext }

-- with the run of an entry in its table slot, where the entry is fresh
abbrev pub one_run : Placed → State → State
one_run p s = if p.fresh then with_run p.slot s else s

-- with those of all these entries, one after another
abbrev pub with_runs : List Placed → State → State
with_runs [] s = s
with_runs (p ∷ ps) s = with_runs ps (one_run p s)

-- the entries of the chosen release
abbrev pub chosen_entries : Parts → List Placed
chosen_entries p = (stored_in (chosen_side p)).placed

-- the parts after a boot: where a commit stands, program flash is the staged image, the table slots of the chosen release's fresh entries begin with their
-- runs, and the installation is at its end
abbrev pub booted : State → Parts
booted s = if is_pending (parts s) then finished (parts (with_runs (chosen_entries (parts s)) (copied s))) else parts s

-- ---- pages that a boot may change

-- every program page, and no other
abbrev pub program_pages : Place → Bool
program_pages (Prog page) = true
program_pages (Ext page) = false

-- the pages of the entry's table slot, where the entry is fresh
abbrev pub one_table : Placed → Place → Bool
one_table p place = p.fresh && table_pages p.slot place

-- the table slots of fresh entries
abbrev pub fresh_tables : List Placed → Place → Bool
fresh_tables es place = list_any (λ p. one_table p place) es

-- program pages, the gates but Fmt, and the table slots of fresh entries
abbrev pub installed_pages : List Placed → Place → Bool
installed_pages es (Prog page) = true
installed_pages es (Ext page) = (nat_le 1 page && nat_le page 7) || fresh_tables es (Ext page)

-- those of the chosen release's entries, where a commit stands
abbrev pub boot_pages : Parts → Place → Bool
boot_pages p place = is_pending p && installed_pages (chosen_entries p) place

-- how many programs a boot makes at most: one for each program page, 39 for each of 16 table slots, and six at the end of an installation
abbrev pub boot_programs : Bool → ℕ
boot_programs pending = if pending then 1110 else 0

-- a mote with a commit of this release that stands
abbrev pub Installs : StoredRelease → Mote → Type 0
Installs m t = Pends t × (t.current.release ≡ m)

-- this release was started: program flash is its set's image and 0xFF behind it, no commit stands, and the mote chooses what it chose
pub record HasStarted (t : Mote) (release : ℕ) (v : View) : Type 0 where
  pub end : State
  pub told : v.state ≡ Some end
  pub number : release ≡ t.current.release.number
  pub prog : IsPages t.current.set end.prog
  pub rests : is_pending (parts end) ≡ false
  pub chosen : Chooses (parts end) t.current

-- the program page holds other bytes than the staged page
abbrev pub IsBehind : Parts → ℕ → Type 0
IsBehind p page = slice_index_or p.prog page [] ≢ slice_index_or p.staged page []

-- a program page is to be programmed: a commit stands, and the staged page holds other bytes
abbrev pub Lags : Parts → ℕ → Type 0
Lags p page = (is_pending p ≡ true) × IsBehind p page

-- each program page was programmed once at most since old, and not at all where it didn't lag
pub record WearsProgram (lags : ℕ → Type 0) (old new : View) : Type 0 where
  pub once : (page : ℕ) → new.programs (Prog page) ≤ old.programs (Prog page) + 1
  pub none : (page : ℕ) → (lags page → ⊥) → new.programs (Prog page) ≡ old.programs (Prog page)

-- the answer for these parts, where no call of the board failed: the number of the chosen side's release, or that there is none
abbrev pub BootAnswers : Result ℕ BootFault → Parts → Type 0
BootAnswers (Ok release) p = (IsUnformatted p → ⊥) × ((m : StoredRelease) × Stores (chosen_side p) m × (release ≡ m.number))
BootAnswers (Err Fault) p = Unit {0}
BootAnswers (Err Unformatted) p = IsUnformatted p

-- a call of the board failed
abbrev pub is_fault : Result ℕ BootFault → Bool
is_fault (Ok release) = false
is_fault (Err Fault) = true
is_fault (Err Unformatted) = false

-- there is nothing to boot
abbrev pub is_unformatted : Result ℕ BootFault → Bool
is_unformatted (Ok release) = false
is_unformatted (Err Fault) = false
is_unformatted (Err Unformatted) = true
