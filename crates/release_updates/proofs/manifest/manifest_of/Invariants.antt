use Rattle.std.proofs.Common.{◌≡◌, length, map, take}
use Rattle.update_laws.specs.Update.{entry_of}
use Rattle.release_updates.specs.Updates.{with_packages}
use Rattle.release_updates.proofs.manifest.manifest_of.Given as goal

abbrev pub invariant-loop-i : goal.invariant-loop-i
invariant-loop-i l = (length l.entries ≡ 16) × (take l.i l.entries ≡ map entry_of (take l.i (with_packages l.parts l.packages)))
