-- Where the records of a set's components stand: helpers of the proofs, which nobody needs to believe.
use Rattle.std.specs.Prelude.{ℕ, ◌+◌, ◌*◌, slice_index, if◌then◌else◌}
use Rattle.component_package.specs.declared.areas.TheConstants.{SLOT_PAGES}
use Rattle.component_package.specs.packages.Reading.{exports_at}
use Rattle.kept_definitions.specs.declared.areas.TheConstants.{INBOX, TABLES}
use Rattle.kept_store.specs.declared.set.StoredSet.{StoredSet}
use Rattle.kept_store.specs.Sets.{header_at, is_fresh}

-- the first page of the slot that has component k
abbrev pub slot_page : StoredSet → ℕ → ℕ
slot_page set k = if is_fresh set k then INBOX + SLOT_PAGES * slice_index set.slots.slots k else TABLES + SLOT_PAGES * slice_index set.slots.slots k

-- the byte of that slot at which its exports begin
abbrev pub records_at : StoredSet → ℕ → ℕ
records_at set k = if is_fresh set k then exports_at (header_at set k) else 32
