use Rattle.std.proofs.Common.{◌≡◌, map, take}
use Rattle.full_linker.proofs.set.numbers_of.Given as goal

abbrev pub invariant-loop-view : goal.invariant-loop-view
invariant-loop-view l = l.numbers.items ≡ map (λ c. c.component) (take l.view-index l.views)
