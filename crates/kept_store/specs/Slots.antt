-- Slots that are given to the entries of a new release: helpers of the proofs, which nobody needs to believe.
use Rattle.std.specs.Prelude.{◌≡◌, ◌<◌, ℕ, Bool, false, List, length, slice_index_or}
use Rattle.component_package.specs.declared.manifest.Entry.{Entry}
use Rattle.component_package.specs.mote.Store.{is_taken}
use Rattle.kept_definitions.specs.Stored.{Placed}
use Rattle.kept_store.specs.declared.slots.Spot.{Spot}

-- the marks of 16 slots are those of these slots
abbrev pub AreMarked : List Bool → List ℕ → Type 0
AreMarked marks taken = (length marks ≡ 16) × ((s : ℕ) → s < 16 → slice_index_or marks s false ≡ is_taken taken s)

-- an entry in its spot
abbrev pub placed_at_spot : Entry → Spot → Placed
placed_at_spot e x = record { entry = e; slot = x.slot; fresh = x.fresh }
