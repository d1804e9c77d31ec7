-- What the ends in memory do by their plans.
use Rattle.std.specs.Prelude.{◌≡◌, ◌+◌, ◌-◌, ◌^◌, ◌||◌, ◌&&◌, ◌==◌, nat_lt, min, Bool, true, ℕ, List, length, Result, IfOk, is_err}
use Rattle.std.specs.List.{list_any}
use Rattle.http_edges.specs.Memory.{bytes_left}
use Rattle.http_edges.specs.declared.edge.Failed.{Failed}
use Rattle.http_edges.specs.declared.memory.MemorySource.{MemorySource}
use Rattle.http_edges.specs.declared.memory.MemorySink.{MemorySink}

-- the plan names this number among the calls that fail; what it names is below 2^32
abbrev pub is_planned : List ℕ → ℕ → Bool
is_planned fail number = nat_lt number (2 ^ 32) && list_any (λ n. n == number) fail

-- the number of the next call, from 1, or as much as a count can hold
abbrev pub next_call : ℕ → ℕ
next_call calls = min (calls + 1) (2 ^ 64 - 1)

-- the source's next call fails and does nothing
abbrev pub is_read_refused : MemorySource → Bool
is_read_refused s = is_planned s.fail.items (next_call s.calls)

-- the sink's next call fails and does nothing, whatever it is to write
abbrev pub is_write_refused : MemorySink → Bool
is_write_refused k = is_planned k.fail.items (next_call k.calls)

-- a source with this chunk and this plan, and no call so far
pub record HasSourceBegun (chunk : ℕ) (fail : List ℕ) (s : MemorySource) : Type 0 where
  pub calls : s.calls ≡ 0
  pub chunk_is : s.chunk ≡ chunk
  pub fail_is : s.fail.items ≡ fail

-- a sink with this room and this plan, and no call so far
pub record HasSinkBegun (room : ℕ) (fail : List ℕ) (k : MemorySink) : Type 0 where
  pub calls : k.calls ≡ 0
  pub room_is : k.room ≡ room
  pub fail_is : k.fail.items ≡ fail

-- a read fails exactly where it is refused, and gives the least of the buffer's length, the chunk and what is left; the plan stays
pub record ReadsByPlan (result : Result ℕ Failed) (size : ℕ) (old new : MemorySource) : Type 0 where
  pub fails : is_err result ≡ is_read_refused old
  pub count : IfOk result (λ count. count ≡ min (min size old.chunk) (length (bytes_left old)))
  pub calls : new.calls ≡ next_call old.calls
  pub chunk : new.chunk ≡ old.chunk
  pub fail : new.fail.items ≡ old.fail.items

-- a write fails exactly where it is refused or its piece has no room, which writes nothing, and else takes all of its piece; the plan stays
pub record WritesByPlan (result : Result ℕ Failed) (size : ℕ) (old new : MemorySink) : Type 0 where
  pub fails : is_err result ≡ (is_write_refused old || nat_lt (old.room - length old.written.items) size)
  pub count : IfOk result (λ count. count ≡ size)
  pub written : is_err result ≡ true → new.written.items ≡ old.written.items
  pub calls : new.calls ≡ next_call old.calls
  pub room : new.room ≡ old.room
  pub fail : new.fail.items ≡ old.fail.items
