use Rattle.std.proofs.Common.{◌≡◌, map, take}
use Rattle.component_package.specs.link.Layout.{room_of}
use Rattle.layout_plan.specs.Plan.{rooms}
use Rattle.full_linker.proofs.parts.sizes_of.Given as goal

abbrev pub invariant-loop-package : goal.invariant-loop-package
invariant-loop-package l = rooms l.sizes.items ≡ map room_of (take l.package-index l.set)
