use Rattle.std.proofs.Common.{All, subst, sym}
use Rattle.std.proofs.lemmas.List.Elements.{All-drop}
use Rattle.http_listeners.specs.Conns.{IsFresh}
use Rattle.http_listeners.proofs.memory.MemoryListenerListener.accept.Goals as goal

pub invariant_of-self-clause-fresh : goal.invariant_of-self-clause-fresh
invariant_of-self-clause-fresh c = subst (All IsFresh) (sym c.in-Some.ensures.rest) (All-drop IsFresh 1 c.args.self.now.waiting.items c.args.self.now.fresh)
