use Rattle.std.proofs.Common.{arith}
use Rattle.kept_store.proofs.RecordLemmas.{fits_slot}
use Rattle.kept_store.proofs.records.records_at.Goals as goal

pub returns-then-set-k-clause-room : goal.returns-then-set-k-clause-room
returns-then-set-k-clause-room c =
    let fits = fits_slot c.args.set.now c.args.k c.requires.set c.has_rooms.ensures c.requires.component in
    omega arith

pub returns-clause-room : goal.returns-clause-room
returns-clause-room c =
    let fits = fits_slot c.args.set.now c.args.k c.requires.set c.has_rooms.ensures c.requires.component in
    omega arith
