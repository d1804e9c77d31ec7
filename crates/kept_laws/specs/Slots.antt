-- Slots for the entries of a new release over the current one, in layout 2.
use Rattle.std.specs.Prelude.{◌≡◌, ℕ, ◌<◌, true, false, List, length, slice_get, Some, None}
use Rattle.component_package.specs.packages.Manifest.{Release, IsRelease}
use Rattle.component_package.specs.mote.Store.{is_taken}
use Rattle.kept_definitions.specs.Stored.{Placed, StoredRelease, IsStored, released}
use Rattle.kept_definitions.specs.Kept.{held_slot, least_free, slots_for}

-- A slot is free where fewer than 16 are taken, whichever they are.
abbrev pub SlotIsFree : Type 0
SlotIsFree = (taken : List ℕ) → length taken < 16 → (least_free taken < 16) × (is_taken taken (least_free taken) ≡ false)

-- A release over a stored one: each entry has a slot of its own, the held ones theirs, which aren't fresh, and each other one is fresh.
pub record SlotsAreFound : Type 0 where
  pub released : (m : StoredRelease) (r : Release) → released (slots_for m r) ≡ r
  -- 16 entries find 16 slots below 16, no two the same
  pub stored : (m : StoredRelease) (r : Release) → IsStored m → IsRelease r → IsStored (slots_for m r)
  pub held : (m : StoredRelease) (r : Release) (k : ℕ) (p : Placed) (s : ℕ) → slice_get (slots_for m r).placed k ≡ Some p
      → held_slot m p.entry ≡ Some s → (p.slot ≡ s) × (p.fresh ≡ false)
  pub fresh : (m : StoredRelease) (r : Release) (k : ℕ) (p : Placed) → slice_get (slots_for m r).placed k ≡ Some p → held_slot m p.entry ≡ None → p.fresh ≡ true
