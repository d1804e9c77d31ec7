use Rattle.full_linker.proofs.Views.{AreRead}
use Rattle.full_linker.proofs.parts.views_of.Given as goal

abbrev pub invariant-loop-bytes : goal.invariant-loop-bytes
invariant-loop-bytes l = AreRead l.set l.bytes-index l.views.items
