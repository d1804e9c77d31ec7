use Rattle.std.proofs.Common.{arith}
use Rattle.kept_symbols.specs.Stored.{stored_rooms}
use Rattle.kept_symbols.proofs.Answered.{next_twice, next_record}
use Rattle.kept_symbols.proofs.merging.next_record.Goals as goal

pub returns-in_default-clause-next : goal.returns-in_default-clause-next
returns-in_default-clause-next g c = λ s told components holds own low at. (at, c.in_default.ensures.first _ low own.is at)

pub returns-in-Some-strong_pair-clause-next : goal.returns-in-Some-strong_pair-clause-next
returns-in-Some-strong_pair-clause-next g c = λ s told components holds own low at single.
    next_twice _ low c.args.walk.now (c.in-Some.k, c.in-Some.export) c.in-Some-strong_pair.first c.in-Some-strong_pair.second own.is at (c.in-Some.ensures.first _ low own.is at)
    (λ on. c.in-Some-strong_pair.ensures _ own.is on) single

pub address-requires-clause-component : goal.address-requires-clause-component
address-requires-clause-component g c =
    let below = c.in-Some.ensures.component in
    omega (arith, below, c.requires.of.count, c.requires.count)

pub returns-clause-next : goal.returns-clause-next
returns-clause-next g c = λ s told components holds own low at.
    next_record _ low c.args.walk.now c.pass.new.self (c.in-Some.k, c.in-Some.export) c.address.result (stored_rooms c.args.set.now) c.record.result own.is at (c.in-Some.ensures.first _ low own.is at)
    own.rooms (c.address.ensures (stored_rooms c.args.set.now) c.requires.plan.plan) c.record.ensures
    (λ on. c.in_default-strong_pair.ensures _ own.is on)
    (λ on. c.in-Ok.ensures.passes s told components holds own.is on)
