use Rattle.std.proofs.Common.{arith}
use Rattle.kept_manifests.specs.Slots.{place_of}
use Rattle.kept_store.proofs.RestLemmas.{slot_low, entry_good}
use Rattle.kept_store.proofs.OpenLemmas.{missing_is}
use Rattle.kept_store.proofs.open.is_there.Goals as goal

pub check-requires-clause-slot : goal.check-requires-clause-slot
check-requires-clause-slot g c = let low = slot_low c.args.m.now c.args.k c.requires.manifest c.requires.entry in omega arith

pub check-requires-clause-least : goal.check-requires-clause-least
check-requires-clause-least g c = (entry_good c.args.m.now c.args.k c.requires.manifest c.requires.entry).least

pub check-requires-clause-most : goal.check-requires-clause-most
check-requires-clause-most g c = (entry_good c.args.m.now c.args.k c.requires.manifest c.requires.entry).most

pub returns-clause-answer : goal.returns-clause-answer
returns-clause-answer g c = λ s told.
    let low = slot_low c.args.m.now c.args.k c.requires.manifest c.requires.entry in
    missing_is s (place_of c.args.m.now c.args.k) c.in_ok-there.there low c.if-not-m-k.false (c.in_ok-there.ensures.answer s told)
