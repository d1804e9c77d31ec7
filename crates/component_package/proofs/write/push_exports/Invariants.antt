use Rattle.std.proofs.Common.{◌≡◌, ◌++◌, take}
use Rattle.std.specs.List.{flat_map}
use Rattle.component_package.specs.packages.Component.{export_bytes}
use Rattle.component_package.proofs.write.push_exports.Given as goal

abbrev pub invariant-loop-e : goal.invariant-loop-e
invariant-loop-e l = l.into.items ≡ l.initial.into.items ++ flat_map export_bytes (take l.e-index l.exports)
