-- Runs of calls that read.
use Rattle.std.proofs.Common.{◌≡◌, ℕ, ap₂, Option, Ok}
use Rattle.release_rows.specs.Tables.{Tables}
use Rattle.release_rows.specs.View.{View, Reads}

-- a call that was answered changed nothing
pub calm : {A : Type 0} (a : A) (old new : View) → Reads {A = A} (Ok a) old new → new ≡ old
calm a old new r = ap₂ (λ (ts : Option Tables) (n : ℕ). record { tables = ts; faults = n }) r.tables r.count
