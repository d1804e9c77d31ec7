use Rattle.std.proofs.Common.{◌≡◌, ◌+◌, ◌*◌, [], ◌∷◌, ◌++◌, take, drop}
use Rattle.std.specs.List.{flat_map}
use Rattle.component_package.specs.packages.Numbers.{u32_bytes}
use Rattle.component_package.specs.packages.Manifest.{manifest_entry_bytes}
use Rattle.component_package.proofs.manifest.write_manifest.Given as goal

abbrev pub invariant-loop-i : goal.invariant-loop-i
invariant-loop-i l = l.into ≡ ((u32_bytes l.m.release ++ l.m.count ∷ []) ++ flat_map manifest_entry_bytes (take l.i l.m.entries)) ++ drop (5 + 38 * l.i) l.fn.into
