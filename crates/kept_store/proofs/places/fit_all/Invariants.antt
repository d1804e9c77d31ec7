use Rattle.component_store.specs.Sets.{AreHeaders}
use Rattle.kept_store.proofs.places.fit_all.Given as goal

abbrev pub invariant-loop-k : goal.invariant-loop-k
invariant-loop-k l = AreHeaders l.m l.k l.headers
