use Rattle.std.proofs.Common.{◌≡◌, take}
use Rattle.rehearsal.proofs.run.copies.Given as goal

abbrev pub invariant-loop-delivered : goal.invariant-loop-delivered
invariant-loop-delivered l = l.copies.items ≡ take l.delivered-index l.packages
