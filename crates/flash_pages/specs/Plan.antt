-- What a board in memory does by its plan.
use Rattle.std.specs.Prelude.{◌≡◌, ◌+◌, ◌-◌, ◌^◌, ◌||◌, ◌&&◌, ◌==◌, nat_lt, nat_le, min, Bool, false, true, not, if◌then◌else◌, ℕ, List, [], length, Result, IfOk, is_err}
use Rattle.std.specs.List.{list_any}
use Rattle.flash_pages.specs.State.{Place, with_page}
use Rattle.flash_pages.specs.Memory.{memory_state}
use Rattle.flash_pages.specs.declared.board.Failed.{Failed}
use Rattle.flash_pages.specs.declared.memory.BoardPlan.{BoardPlan}
use Rattle.flash_pages.specs.declared.memory.MemoryBoard.{MemoryBoard}

-- the plan names this number among the calls that fail; what it names is below 2^32
abbrev pub is_planned : BoardPlan → ℕ → Bool
is_planned plan number = nat_lt number (2 ^ 32) && list_any (λ n. n == number) plan.fail.items

-- the number of the next call, from 1, or as much as a count can hold
abbrev pub next_call : MemoryBoard → ℕ
next_call b = min (b.calls + 1) (2 ^ 64 - 1)

-- the power was cut
abbrev pub is_stopped : MemoryBoard → Bool
is_stopped b = b.stopped

-- the next call fails and does nothing: the power was cut, or the plan names its number
abbrev pub is_refused : MemoryBoard → Bool
is_refused b = b.stopped || is_planned b.plan (next_call b)

-- there is no room for a program more
abbrev pub is_full : MemoryBoard → Bool
is_full b = nat_le b.log.program_room b.log.programs

-- the next program is the one in which the power is cut
abbrev pub is_cut_next : MemoryBoard → Bool
is_cut_next b = b.plan.stop_at == b.log.programs + 1

-- the next call, a program, writes its page
abbrev pub writes_next : MemoryBoard → Bool
writes_next b = not (is_refused b) && not (is_full b)

-- what it writes: these bytes, or where the power is cut what the plan says
abbrev pub written : MemoryBoard → List ℕ → List ℕ
written b bytes = if is_cut_next b then b.plan.spoil else bytes

-- how many programs there were
abbrev pub programs_of : MemoryBoard → ℕ
programs_of b = b.log.programs

-- a board that has begun: no call, no program, and the power is on
pub record HasBegun (b : MemoryBoard) : Type 0 where
  pub calls : b.calls ≡ 0
  pub programs : b.log.programs ≡ 0
  pub stopped : b.stopped ≡ false

-- one call more, in which the power is cut or isn't; the plan and the rooms stay
pub record GoesOn (cut : Bool) (old new : MemoryBoard) : Type 0 where
  pub calls : new.calls ≡ next_call old
  pub stopped : new.stopped ≡ (old.stopped || cut)
  pub plan : new.plan ≡ old.plan
  pub program_room : new.log.program_room ≡ old.log.program_room
  pub sent_room : new.sent_room ≡ old.sent_room

-- a read fails exactly where it is refused
pub record ReadsByPlan (failed : Bool) (old new : MemoryBoard) : Type 0 where
  pub fails : failed ≡ is_refused old
  pub goes : GoesOn false old new

-- a program fails exactly where it is refused, has no room, or the power is cut in it; what it
-- writes is as the plan says
pub record ProgramsByPlan (place : Place) (bytes : List ℕ) (failed : Bool)
    (old new : MemoryBoard) : Type 0 where
  pub fails : failed ≡ (not (writes_next old) || is_cut_next old)
  pub state : memory_state new
      ≡ (if writes_next old
      then with_page (memory_state old) place (written old bytes)
      else memory_state old)
  pub programs : new.log.programs ≡ old.log.programs + (if writes_next old then 1 else 0)
  pub goes : GoesOn (writes_next old && is_cut_next old) old new

-- a receive fails exactly where it is refused, and gives the least of the buffer's length, the
-- chunk and what is left
pub record ReceivesByPlan (result : Result ℕ Failed) (size : ℕ)
    (old new : MemoryBoard) : Type 0 where
  pub fails : is_err result ≡ is_refused old
  pub count : IfOk result (λ count.
      count ≡ min (min size old.plan.chunk) (length old.input.items - old.taken))
  pub goes : GoesOn false old new

-- a send fails exactly where it is refused or its piece has no room, and sends all of its piece
pub record SendsByPlan (result : Result ℕ Failed) (piece : List ℕ)
    (old new : MemoryBoard) : Type 0 where
  pub fails : is_err result
      ≡ (is_refused old || nat_lt (old.sent_room - length old.sent.items) (length piece))
  pub count : IfOk result (λ count. count ≡ length piece)
  pub goes : GoesOn false old new

-- what a plan means
pub record PlansTell : Type 0 where
  -- once the power was cut each call is refused, and stays refused
  pub stopped : (b : MemoryBoard) → is_stopped b ≡ true → is_refused b ≡ true
  pub stays : (cut : Bool) (old new : MemoryBoard) → GoesOn cut old new
      → is_stopped old ≡ true → is_stopped new ≡ true
  -- a plan that names no call and no program refuses and cuts nothing
  pub calm : (b : MemoryBoard) → is_stopped b ≡ false
      → b.plan.fail.items ≡ [] → b.plan.stop_at ≡ 0
      → (is_refused b ≡ false) × (is_cut_next b ≡ false)
