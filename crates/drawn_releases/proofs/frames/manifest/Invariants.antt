use Rattle.std.proofs.Common.{◌≡◌, ◌++◌, ◌∷◌, [], take, length}
use Rattle.std.specs.List.{flat_map}
use Rattle.component_package.specs.packages.Numbers.{u32_bytes}
use Rattle.component_package.specs.packages.Manifest.{manifest_entry_bytes}
use Rattle.update_laws.specs.Update.{entry_of}
use Rattle.drawn_releases.proofs.frames.manifest.Given as goal

abbrev pub invariant-loop-delivered : goal.invariant-loop-delivered
invariant-loop-delivered l = l.bytes.items ≡ (u32_bytes l.number ++ length l.packages ∷ []) ++ flat_map (λ d. manifest_entry_bytes (entry_of d)) (take l.delivered-index l.packages)
