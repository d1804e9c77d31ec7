-- What is known of a board, and what its calls do.
use Rattle.std.specs.Prelude.{◌≡◌, ◌≢◌, ◌⊎◌, ◌↔◌, Bool, true, false, Result, Ok, Err, ℕ, ◌+◌, ◌<◌, ◌≤◌, ◌^◌, ◌-◌, min, List, [], length, take, drop, Option, Some, None}
use Rattle.flash_pages.specs.State.{State, Place, IsState, Spoils, with_page, with_sent, MayHold}

-- all that a board shows of itself
pub record View : Type 1 where
  -- what both flashes hold and what was sent; a board may tell none
  pub state : Option State
  -- the bytes left to receive; a board may tell none
  pub left : Option (List ℕ)
  -- a number that never falls
  pub moment : ℕ
  -- a cut at some moment since that one may have left this state
  pub left_since : ℕ → State → Type 0
  -- how often each page was programmed, and how often all of them together
  pub programs : Place → ℕ
  pub all_programs : ℕ
  -- how many calls on a flash failed, and how many on the line
  pub flash_faults : ℕ
  pub line_faults : ℕ
  -- a state that is told is 480 pages, 2,048 pages and bytes
  pub sizes : (s : State) → state ≡ Some s → IsState s
  -- the present state always passes
  pub present : (s : State) (t : ℕ) → state ≡ Some s → t ≤ moment → left_since t s
  -- and since this moment no other
  pub only_now : (s x : State) → state ≡ Some s → left_since moment x → x ≡ s

-- this holds of the state, where the board tells it
abbrev pub Told : View → (State → Type 0) → Type 0
Told v P = (s : State) → v.state ≡ Some s → P s

-- a count of faults rose, or stands at its end
abbrev pub Rose : ℕ → ℕ → Type 0
Rose before now = min (before + 1) (2 ^ 64 - 1) ≤ now

-- the flash's faults after an answer: as before at Ok, and risen at Err
abbrev pub FlashFaults : {A E : Type 0} → Result A E → View → View → Type 0
FlashFaults (Ok a) old new = new.flash_faults ≡ old.flash_faults
FlashFaults (Err e) old new = Rose old.flash_faults new.flash_faults

-- the same for an answer of its own kind: risen where it is a fault of the flash, else as before
abbrev pub FlashFaultsWhere : Bool → View → View → Type 0
FlashFaultsWhere true old new = Rose old.flash_faults new.flash_faults
FlashFaultsWhere false old new = new.flash_faults ≡ old.flash_faults

-- the line's faults after an answer: as before at Ok, and risen at Err
abbrev pub LineFaults : {A E : Type 0} → Result A E → View → View → Type 0
LineFaults (Ok a) old new = new.line_faults ≡ old.line_faults
LineFaults (Err e) old new = Rose old.line_faults new.line_faults

-- Time goes on: a cut since t may have left what it might have left before, or what this call may
-- leave, and nothing else.
pub record Elapses (old new : View) (leaves : State → State → Type 0) : Type 0 where
  pub later : old.moment ≤ new.moment
  pub nothing_else : (s x : State) (t : ℕ) → old.state ≡ Some s → t ≤ old.moment
      → new.left_since t x → old.left_since t x ⊎ leaves s x
  pub keeps : (x : State) (t : ℕ) → t ≤ old.moment → old.left_since t x → new.left_since t x

-- what holds of each call on a flash, on every board: it tells no more and no less, and touches
-- neither the bytes left nor the line's faults
pub record UsesFlash (old new : View) : Type 0 where
  pub untold : old.state ≡ None → new.state ≡ None
  pub left : new.left ≡ old.left
  pub line : new.line_faults ≡ old.line_faults
  pub flash : old.flash_faults ≤ new.flash_faults

-- a read, done or failed: nothing is changed
pub record Reads (old new : View) : Type 0 where
  pub state : new.state ≡ old.state
  pub cut : Elapses old new (λ s x. x ≡ s)
  pub programs : (place : Place) → new.programs place ≡ old.programs place
  pub all_programs : new.all_programs ≡ old.all_programs
  pub uses : UsesFlash old new

-- a program of a page, only where it is needed, done or failed: the page may hold any bytes, and no
-- other page is touched
pub record Programs (needed : State → Type 0) (place : Place) (old new : View) : Type 0 where
  pub state : Told old (λ s. (x : State) × (new.state ≡ Some x) × MayHold needed place s x)
  pub cut : Elapses old new (MayHold needed place)
  pub others : (s : State) (other : Place) → old.state ≡ Some s
      → other ≢ place → new.programs other ≡ old.programs other
  -- both counts rise by one at most, never fall, and stay where no program was needed
  pub at_most : Told old (λ s. (new.programs place ≤ old.programs place + 1)
      × (new.all_programs ≤ old.all_programs + 1))
  pub no_less : Told old (λ s. (old.programs place ≤ new.programs place)
      × (old.all_programs ≤ new.all_programs))
  pub none : Told old (λ s. (needed s → ⊥) → (new.programs place ≡ old.programs place)
      × (new.all_programs ≡ old.all_programs))
  -- a cut in a program that was counted, done or failed, might have left any bytes in the page
  pub spoils : (s x : State) (t : ℕ) → old.state ≡ Some s → t ≤ old.moment
      → old.programs place < new.programs place → Spoils place s x → new.left_since t x
  pub uses : UsesFlash old new

-- a program that was done: the page holds these bytes, and its number of programs rose by one
pub record IsProgrammed (place : Place) (bytes : List ℕ) (old new : View) : Type 0 where
  pub state : Told old (λ s. new.state ≡ Some (with_page s place bytes))
  pub programs : Told old (λ s. new.programs place ≡ old.programs place + 1)
  pub all_programs : Told old (λ s. new.all_programs ≡ old.all_programs + 1)

-- a call on the line: no page is changed
pub record UsesLine (leaves : State → State → Type 0) (old new : View) : Type 0 where
  pub untold : old.state ≡ None → new.state ≡ None
  pub untold_left : old.left ≡ None → new.left ≡ None
  pub cut : Elapses old new leaves
  pub programs : (place : Place) → new.programs place ≡ old.programs place
  pub all_programs : new.all_programs ≡ old.all_programs
  pub line : old.line_faults ≤ new.line_faults
  pub flash : new.flash_faults ≡ old.flash_faults

-- so many of the next bytes were given, and are left no more; none of them exactly where nothing was
-- left
pub record Receives (count : ℕ) (old_into new_into : List ℕ) (old new : View) : Type 0 where
  pub within : count ≤ length old_into
  pub bytes : (bytes : List ℕ) → old.left ≡ Some bytes → (new.left ≡ Some (drop count bytes))
      × (take count new_into ≡ take count bytes) × (count ≤ length bytes)
  pub ends : (bytes : List ℕ) → old.left ≡ Some bytes → 0 < length old_into
      → (count ≡ 0) ↔ (bytes ≡ [])

-- so many bytes from the front of the piece were sent, at least one of a piece that isn't empty
pub record Sends (count : ℕ) (piece : List ℕ) (old new : View) : Type 0 where
  pub within : count ≤ length piece
  pub some : 0 < length piece → 0 < count
  pub state : Told old (λ s. new.state ≡ Some (with_sent s (take count piece)))

-- each page was programmed once at most since old, and not at all where that wasn't needed in the
-- state then
pub record WearsOnce (needed : State → Place → Type 0) (old new : View) : Type 0 where
  pub once : Told old (λ s. (place : Place) → new.programs place ≤ old.programs place + 1)
  pub none : Told old (λ s. (place : Place) → (needed s place → ⊥)
      → new.programs place ≡ old.programs place)
