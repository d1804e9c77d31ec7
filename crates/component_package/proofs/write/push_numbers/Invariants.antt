use Rattle.std.proofs.Common.{◌≡◌, ◌++◌, take}
use Rattle.std.specs.List.{flat_map}
use Rattle.component_package.specs.packages.Numbers.{u16_bytes}
use Rattle.component_package.proofs.write.push_numbers.Given as goal

abbrev pub invariant-loop-n : goal.invariant-loop-n
invariant-loop-n l = l.into.items ≡ l.initial.into.items ++ flat_map u16_bytes (take l.n-index l.numbers)
