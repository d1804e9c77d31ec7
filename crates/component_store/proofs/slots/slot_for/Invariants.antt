use Rattle.std.proofs.Common.{◌≡◌, take, map, length}
use Rattle.component_package.specs.packages.Manifest.{stored_of}
use Rattle.component_package.specs.mote.Store.{placed_from}
use Rattle.component_store.specs.Slots.{used_slots}
use Rattle.component_store.proofs.slots.slot_for.Given as goal

abbrev pub invariant-loop-i : goal.invariant-loop-i
invariant-loop-i l = record {
  room : length l.slots ≡ 16;
  given : take l.i l.slots ≡ map (λ p. p.slot) (placed_from (stored_of l.current) (used_slots l.current) (take l.i l.incoming.entries));
}
