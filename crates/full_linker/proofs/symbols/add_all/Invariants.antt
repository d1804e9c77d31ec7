use Rattle.full_linker.proofs.Added.{AreAdded}
use Rattle.full_linker.proofs.symbols.add_all.Given as goal

abbrev pub invariant-loop-i : goal.invariant-loop-i
invariant-loop-i l = AreAdded l.component l.part.exports l.initial.slots l.slots l.i
