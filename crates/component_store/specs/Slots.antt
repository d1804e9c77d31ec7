-- The slots that a release uses.
use Rattle.std.specs.Prelude.{ℕ, List, map}
use Rattle.component_package.specs.declared.manifest.SlotManifest.{SlotManifest}
use Rattle.component_package.specs.packages.Manifest.{stored_of}

-- the slots of a stored manifest's entries, in order
abbrev pub used_slots : SlotManifest → List ℕ
used_slots m = map (λ p. p.slot) (stored_of m).placed
