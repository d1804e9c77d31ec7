-- Runs that are brought into table slots: helpers of the proofs, which nobody needs to believe.
use Rattle.std.specs.Prelude.{◌≡◌, ◌≢◌, ◌<◌, ℕ, List}
use Rattle.flash_pages.specs.State.{State}
use Rattle.kept_definitions.specs.Stored.{Placed}
use Rattle.kept_definitions.specs.Machine.{Mote}
use Rattle.kept_laws.specs.Laws.{KeepsItsRun}
use Rattle.kept_manifests.specs.declared.pages.SlotManifest.{SlotManifest}
use Rattle.kept_manifests.specs.Slots.{place_of}
use Rattle.kept_journal.specs.Steps.{parts, Stands}

-- The table slot of this entry has its run, where the entry is fresh; the others that had theirs have them still, and of the parts no other changed.
pub record KeepsOne (p : Placed) (t : Mote) (s x : State) : Type 0 where
  pub stands : Stands x t
  pub tables : List (List ℕ)
  pub parts_are : parts x ≡ record (parts s) { tables = tables }
  pub run : KeepsItsRun tables (parts s).inbox p
  pub others : (q : Placed) → q.slot ≢ p.slot → KeepsItsRun (parts s).tables (parts s).inbox q → KeepsItsRun tables (parts s).inbox q

-- The first n entries have their runs, and of the parts only the tables changed.
pub record Brings (m : SlotManifest) (n : ℕ) (t : Mote) (s x : State) : Type 0 where
  pub stands : Stands x t
  pub tables : List (List ℕ)
  pub parts_are : parts x ≡ record (parts s) { tables = tables }
  pub runs : (j : ℕ) → j < n → KeepsItsRun tables (parts s).inbox (place_of m j)
