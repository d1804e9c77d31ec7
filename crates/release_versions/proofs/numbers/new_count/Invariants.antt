use Rattle.std.proofs.Common.{◌≡◌, take}
use Rattle.release_versions.specs.Numbers.{new_count}
use Rattle.release_versions.proofs.numbers.new_count.Given as goal

abbrev pub invariant-loop-number : goal.invariant-loop-number
invariant-loop-number l = l.count ≡ new_count (take l.number-index l.known)
