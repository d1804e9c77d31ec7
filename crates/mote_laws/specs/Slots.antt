-- Slots for the entries of a new release over the current one.
use Rattle.std.specs.Prelude.{◌≡◌, ℕ, ◌<◌, false, List, length, slice_get, Some, None}
use Rattle.component_package.specs.packages.Manifest.{Release, Placed, StoredRelease, IsRelease, IsStored, released}
use Rattle.component_package.specs.mote.Store.{held_slot, is_taken, least_free, slots_for}
use Rattle.mote_laws.specs.Steps.{IsUnused}

-- A slot is free where fewer than 32 are taken, whichever they are.
abbrev pub SlotIsFree : Type 0
SlotIsFree = (taken : List ℕ) → length taken < 32 → (least_free taken < 32) × (is_taken taken (least_free taken) ≡ false)

-- A release over a stored one: each entry has a slot of its own, the held ones theirs, and no other one that the current release uses.
pub record SlotsAreFound : Type 0 where
  -- the entries are the release's
  pub released : (m : StoredRelease) (r : Release) → released (slots_for m r) ≡ r
  -- 16 entries over 16 find 16 slots below 32, no two the same
  pub stored : (m : StoredRelease) (r : Release) → IsStored m → IsRelease r → IsStored (slots_for m r)
  pub held : (m : StoredRelease) (r : Release) (k : ℕ) (p : Placed) (s : ℕ) → slice_get (slots_for m r).placed k ≡ Some p
      → held_slot m p.entry ≡ Some s → p.slot ≡ s
  pub new : (m : StoredRelease) (r : Release) (k : ℕ) (p : Placed) → IsStored m → IsRelease r → slice_get (slots_for m r).placed k ≡ Some p
      → held_slot m p.entry ≡ None → IsUnused m p.slot
