use Rattle.kept_store.proofs.RestLemmas.{slot_low}
use Rattle.kept_store.proofs.tables.slot_of.Goals as goal

pub returns-clause-low : goal.returns-clause-low
returns-clause-low c = slot_low c.args.m.now c.args.k c.requires.manifest c.requires.entry
