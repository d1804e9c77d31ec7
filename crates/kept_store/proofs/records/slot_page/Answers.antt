use Rattle.std.proofs.Common.{arith}
use Rattle.kept_store.proofs.RestLemmas.{slot_low}
use Rattle.kept_store.proofs.records.slot_page.Goals as goal

pub returns-then-set-k-clause-low : goal.returns-then-set-k-clause-low
returns-then-set-k-clause-low c =
    let low = slot_low c.args.set.now.slots c.args.k c.requires.set.manifest c.requires.component in
    omega arith

pub returns-clause-low : goal.returns-clause-low
returns-clause-low c =
    let low = slot_low c.args.set.now.slots c.args.k c.requires.set.manifest c.requires.component in
    omega arith
