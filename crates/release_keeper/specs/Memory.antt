-- What a keeper in memory tells, and which of its calls fail.
use Rattle.std.specs.Prelude.{◌≡◌, ℕ, ◌+◌, ◌-◌, ◌^◌, ◌==◌, ◌&&◌, Bool, nat_lt, min, List, Some, Result, Ok, Err, false, true}
use Rattle.std.specs.List.{list_any}
use Rattle.release_rows.specs.declared.rows.RowsFault.{RowsFault}
use Rattle.release_rows.specs.declared.rows.RowsFault.TheVariants.{Failed, Memory}
use Rattle.release_rows.specs.View.{View}
use Rattle.release_keeper.specs.Tables.{memory_tables}
use Rattle.release_keeper.specs.declared.memory.MemoryKeeper.{MemoryKeeper}

-- a keeper in memory tells its tables
abbrev pub memory_view : MemoryKeeper → View
memory_view k = record { tables = Some (memory_tables k.tables); faults = k.faults }

-- the calls that are to fail, by their numbers, and how many calls there were
abbrev pub plan_of : MemoryKeeper → List ℕ
plan_of k = k.fail.items

abbrev pub calls_of : MemoryKeeper → ℕ
calls_of k = k.calls

-- the number of the next call, from 1, or as much as a count can hold
abbrev pub next_call : MemoryKeeper → ℕ
next_call k = min (k.calls + 1) (2 ^ 64 - 1)

-- the plan names the next call; what it names is below 2^32
abbrev pub is_refused : MemoryKeeper → Bool
is_refused k = nat_lt (next_call k) (2 ^ 32) && list_any (λ n. n == next_call k) k.fail.items

-- the call failed; want of memory is no failure
abbrev pub has_failed : {A : Type 0} → Result A RowsFault → Bool
has_failed (Ok a) = false
has_failed (Err Failed) = true
has_failed (Err Memory) = false

-- A call fails exactly where the plan names it; it is one call more, and the plan stays.
pub record GoesByPlan {A : Type 0} (result : Result A RowsFault) (old new : MemoryKeeper) : Type 0 where
  pub fails : has_failed result ≡ is_refused old
  pub calls : calls_of new ≡ next_call old
  pub plan : plan_of new ≡ plan_of old
