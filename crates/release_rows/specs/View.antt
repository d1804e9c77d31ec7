-- What is known of something that keeps rows, and what its calls do.
use Rattle.std.specs.Prelude.{◌≡◌, ℕ, ◌+◌, ◌≤◌, ◌^◌, ◌-◌, min, Option, Some, Result, Ok, Err}
use Rattle.release_rows.specs.declared.rows.RowsFault.{RowsFault}
use Rattle.release_rows.specs.declared.rows.RowsFault.TheVariants.{Failed, Memory}
use Rattle.release_rows.specs.Tables.{Tables}

-- all that it shows of itself
pub record View : Type 0 where
  -- the tables; it may tell none
  pub tables : Option Tables
  -- how many calls failed
  pub faults : ℕ

-- this holds of the tables, where they are told
abbrev pub Told : View → (Tables → Type 0) → Type 0
Told v P = (t : Tables) → v.tables ≡ Some t → P t

-- a count of faults rose, or stands at its end
abbrev pub Rose : ℕ → ℕ → Type 0
Rose before now = min (before + 1) (2 ^ 64 - 1) ≤ now

-- the faults after an answer: risen where a call failed, else as before; want of memory is no fault
abbrev pub CountsFaults : {A : Type 0} → Result A RowsFault → ℕ → ℕ → Type 0
CountsFaults (Ok a) old new = new ≡ old
CountsFaults (Err Failed) old new = Rose old new
CountsFaults (Err Memory) old new = new ≡ old

-- a call that reads: no row is changed, and the count of faults never falls
pub record Reads {A : Type 0} (result : Result A RowsFault) (old new : View) : Type 0 where
  pub tables : new.tables ≡ old.tables
  pub later : old.faults ≤ new.faults
  pub count : CountsFaults result old.faults new.faults
