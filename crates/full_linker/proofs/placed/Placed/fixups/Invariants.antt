use Rattle.full_linker.proofs.Done.{AreDone}
use Rattle.full_linker.proofs.placed.Placed.fixups.Given as goal

abbrev pub invariant-loop-site : goal.invariant-loop-site
invariant-loop-site l = AreDone l.self l.sites l.site-index l.fixups.items
