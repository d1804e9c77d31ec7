use Rattle.std.proofs.Common.{◌≡◌, None, take}
use Rattle.std.specs.List.{All}
use Rattle.component_package.specs.packages.Reading.{package_fault}
use Rattle.full_linker.proofs.set.are_packages.Given as goal

abbrev pub invariant-loop-bytes : goal.invariant-loop-bytes
invariant-loop-bytes l = All (λ b. package_fault b ≡ None) (take l.bytes-index l.set)
