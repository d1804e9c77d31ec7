use Rattle.std.proofs.Common.{arith}
use Rattle.kept_manifests.specs.Slots.{place_of, stored_of}
use Rattle.component_package.proofs.Lists.{length-list_of}
use Rattle.component_package.proofs.StoredLemmas.{element_past}
use Rattle.kept_store.proofs.OpenLemmas.{entry_here}
use Rattle.kept_store.proofs.RestLemmas.{slot_low, entry_good}
use Rattle.kept_core.proofs.frames.piece.entry_at.Goals as goal

pub returns-then-k-m-clause-none : goal.returns-then-k-m-clause-none
returns-then-k-m-clause-none c none =
    let m = c.args.m.now in
    let past = c.if-k-m.true in
    element_past (stored_of m).placed c.args.k (omega (arith, length-list_of (place_of m) m.manifest.count))

pub returns-clause-there : goal.returns-clause-there
returns-clause-there c =
    let m = c.args.m.now in
    let lt = c.if-k-m.false in
    entry_here m c.args.k (omega arith)

pub returns-clause-slot : goal.returns-clause-slot
returns-clause-slot c =
    let m = c.args.m.now in
    let lt = c.if-k-m.false in
    slot_low m c.args.k c.requires (omega arith)

pub returns-clause-entry : goal.returns-clause-entry
returns-clause-entry c =
    let m = c.args.m.now in
    let lt = c.if-k-m.false in
    entry_good m c.args.k c.requires (omega arith)
