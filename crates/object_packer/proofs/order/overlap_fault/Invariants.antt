use Rattle.std.proofs.Common.{◌≡◌, drop}
use Rattle.object_packer.specs.Faults.{overlap_fault}
use Rattle.object_packer.proofs.order.overlap_fault.Given as goal

abbrev pub invariant-loop-x : goal.invariant-loop-x
invariant-loop-x l = overlap_fault 0 l.kept ≡ overlap_fault l.end (drop l.x-index l.kept)
