use Rattle.std.proofs.Common.{◌≡◌, map, take}
use Rattle.rehearsal.proofs.flash.bytes_of.Given as goal

abbrev pub invariant-loop-delivered : goal.invariant-loop-delivered
invariant-loop-delivered l = l.set.items ≡ map (λ d. d.bytes) (take l.delivered-index l.packages)
