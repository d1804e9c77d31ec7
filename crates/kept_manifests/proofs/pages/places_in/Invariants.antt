use Rattle.std.proofs.Common.{◌≡◌, None, length, take}
use Rattle.std.specs.List.{concat}
use Rattle.component_package.specs.packages.Reading.{first_fault, list_of}
use Rattle.kept_definitions.specs.Stored.{placed_at}
use Rattle.kept_manifests.specs.Steps.{place_fault}
use Rattle.kept_manifests.proofs.pages.places_in.Given as goal

abbrev pub invariant-loop-i : goal.invariant-loop-i
invariant-loop-i l = record {
  room : length l.entries ≡ 16;
  slot_room : length l.slots ≡ 16;
  fresh_room : length l.fresh ≡ 16;
  entries : take l.i l.entries ≡ list_of (λ k. (placed_at (concat l.pages) k).entry) l.i;
  slots : take l.i l.slots ≡ list_of (λ k. (placed_at (concat l.pages) k).slot) l.i;
  fresh : take l.i l.fresh ≡ list_of (λ k. (placed_at (concat l.pages) k).fresh) l.i;
  none : first_fault (place_fault (concat l.pages)) l.i ≡ None;
}
