use Rattle.std.proofs.Common.{◌≡◌, take, length}
use Rattle.component_package.specs.packages.Reading.{list_of}
use Rattle.component_package.specs.packages.Manifest.{release_of}
use Rattle.kept_definitions.specs.Kept.{held_slots, placed_from}
use Rattle.kept_manifests.specs.Slots.{stored_of}
use Rattle.kept_store.specs.Slots.{AreMarked}
use Rattle.kept_store.proofs.SlotLemmas.{taken_after, place_in}
use Rattle.kept_store.proofs.slots.slot_for.Given as goal

abbrev pub invariant-loop-i : goal.invariant-loop-i
invariant-loop-i l = record {
  room : length l.slots ≡ 16;
  fresh_room : length l.fresh ≡ 16;
  marked : AreMarked l.taken (taken_after (stored_of l.current) (held_slots (stored_of l.current) (release_of l.incoming).entries) (take l.i l.incoming.entries));
  placed : list_of (place_in l.incoming.entries l.slots l.fresh) l.i ≡ placed_from (stored_of l.current) (held_slots (stored_of l.current) (release_of l.incoming).entries) (take l.i l.incoming.entries);
}
