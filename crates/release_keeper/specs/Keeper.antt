-- What a change does to what keeps the rows.
use Rattle.std.specs.Prelude.{◌≡◌, ◌≤◌, Result, OnOk, OnErr}
use Rattle.std.specs.Option.{option_map}
use Rattle.release_rows.specs.declared.change.Change.{Change}
use Rattle.release_rows.specs.declared.rows.RowsFault.{RowsFault}
use Rattle.release_rows.specs.Change.{changed}
use Rattle.release_rows.specs.View.{View, CountsFaults}

-- A change is made whole, or nothing of it: with Ok the tables, where they are told, are the changed ones, else they are as before. The
-- count of faults rises where the call failed, and want of memory is no fault.
pub record Applies {A : Type 0} (c : Change) (result : Result A RowsFault) (old new : View) : Type 0 where
  pub made : OnOk result (new.tables ≡ option_map (λ t. changed t c) old.tables)
  pub none : OnErr result (new.tables ≡ old.tables)
  pub later : old.faults ≤ new.faults
  pub count : CountsFaults result old.faults new.faults
