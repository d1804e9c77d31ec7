use Rattle.std.proofs.Common.{◌≡◌, None, length, take}
use Rattle.std.specs.List.{concat}
use Rattle.component_package.specs.packages.Reading.{first_fault, list_of}
use Rattle.component_package.specs.packages.Manifest.{placed_at}
use Rattle.component_package.specs.packages.ManifestSteps.{place_fault}
use Rattle.component_package.proofs.manifest.places_in.Given as goal

abbrev pub invariant-loop-i : goal.invariant-loop-i
invariant-loop-i l = record {
  room : length l.entries ≡ 16;
  slot_room : length l.slots ≡ 16;
  entries : take l.i l.entries ≡ list_of (λ k. (placed_at (concat l.pages) k).entry) l.i;
  slots : take l.i l.slots ≡ list_of (λ k. (placed_at (concat l.pages) k).slot) l.i;
  none : first_fault (place_fault (concat l.pages)) l.i ≡ None;
}
