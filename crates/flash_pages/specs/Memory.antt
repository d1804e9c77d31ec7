-- What a board in memory tells.
use Rattle.std.specs.Prelude.{◌≡◌, ℕ, List, [], drop, replicate, reverse, Some}
use Rattle.std.proofs.Common.{subst}
use Rattle.std.proofs.lemmas.Option.{same_Some}
use Rattle.flash_pages.specs.State.{State, Place, IsState}
use Rattle.flash_pages.specs.Board.{View}
use Rattle.flash_pages.specs.Log.{Forms, logged_view}
use Rattle.flash_pages.specs.declared.memory.BoardPlan.{BoardPlan}
use Rattle.flash_pages.specs.declared.memory.MemoryBoard.{MemoryBoard}

-- the state of a board in memory
abbrev pub memory_state : MemoryBoard → State
memory_state b = record { prog = b.prog.items; ext = b.ext.items; sent = b.sent.items }

-- that state has its sizes
pub memory_sizes : (b : MemoryBoard) → Forms (memory_state b)
memory_sizes b x is = subst IsState (same_Some (memory_state b) x is) (record {
  prog = b.prog_size;
  ext = b.ext_size;
  prog_pages = b.prog_pages;
  ext_pages = b.ext_pages;
  sent = b.sent_bytes;
})

-- what a board in memory shows: its state, the bytes of its input that were not taken, and the past that its changes tell
abbrev pub memory_view : MemoryBoard → View
memory_view b =
    logged_view (memory_state b) (memory_sizes b) (drop b.taken b.input.items)
    (reverse b.log.changes.items) b.flash_faults b.line_faults

-- what is to go wrong on a board in memory
abbrev pub plan_of : MemoryBoard → BoardPlan
plan_of b = b.plan

-- for how many programs of pages it has room, and for how many sent bytes
abbrev pub program_room : MemoryBoard → ℕ
program_room b = b.log.program_room

abbrev pub sent_room : MemoryBoard → ℕ
sent_room b = b.sent_room

-- a page of zeros
abbrev pub zero_page : List ℕ
zero_page = replicate 256 0

-- the state of a new board in memory: zeros in each page, and nothing sent
unfoldable pub zeros : State
zeros = record { prog = replicate 480 zero_page; ext = replicate 2048 zero_page; sent = [] }

-- this state with nothing sent
abbrev pub unsent : State → State
unsent s = record s { sent = [] }

-- a board that has just begun, with this state and these bytes to receive
pub record IsFresh (s : State) (input : List ℕ) (v : View) : Type 0 where
  pub state : v.state ≡ Some s
  pub left : v.left ≡ Some input
  pub moment : v.moment ≡ 0
  pub programs : (place : Place) → v.programs place ≡ 0
  pub all_programs : v.all_programs ≡ 0
  pub flash_faults : v.flash_faults ≡ 0
  pub line_faults : v.line_faults ≡ 0
