use Rattle.full_linker.proofs.Collected.{AreCollected}
use Rattle.full_linker.proofs.symbols.collect.Given as goal

abbrev pub invariant-loop-k : goal.invariant-loop-k
invariant-loop-k l = AreCollected l.set l.k l.slots
