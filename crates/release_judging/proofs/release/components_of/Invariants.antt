use Rattle.std.proofs.Common.{◌≡◌, map, take}
use Rattle.release_judging.proofs.release.components_of.Given as goal

abbrev pub invariant-loop-part : goal.invariant-loop-part
invariant-loop-part l = l.components.items ≡ map (λ p. p.component) (take l.part-index l.parts)
