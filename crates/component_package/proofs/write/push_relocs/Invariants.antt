use Rattle.std.proofs.Common.{◌≡◌, ◌++◌, take}
use Rattle.std.specs.List.{flat_map}
use Rattle.component_package.specs.packages.Component.{reloc_bytes}
use Rattle.component_package.proofs.write.push_relocs.Given as goal

abbrev pub invariant-loop-r : goal.invariant-loop-r
invariant-loop-r l = l.into.items ≡ l.initial.into.items ++ flat_map reloc_bytes (take l.r-index l.relocs)
