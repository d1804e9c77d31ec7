use Rattle.std.proofs.Common.{◌≡◌, length, rules, arith}
use Rattle.component_package.specs.packages.Manifest.{stored_of}
use Rattle.component_package.proofs.StoredLemmas.{element_past}
use Rattle.component_store.proofs.SlotLemmas.{pairs_at_most}
use Rattle.component_store.proofs.OpenLemmas.{is_entry}
use Rattle.mote_core.proofs.frames.piece.entry_at.Goals as goal

pub returns-then-k-m-clause-none : goal.returns-then-k-m-clause-none
returns-then-k-m-clause-none c none =
    let m = c.args.m.now in
    let past = c.if-k-m.true in
    element_past (stored_of m).placed c.args.k (omega (arith, pairs_at_most m.manifest.entries m.slots m.manifest.count))

pub returns-clause-there : goal.returns-clause-there
returns-clause-there c =
    let m = c.args.m.now in
    let room : length m.manifest.entries ≡ 16 = search rules in
    let slot_room : length m.slots ≡ 16 = search rules in
    let lt = c.if-k-m.false in
    (is_entry m c.args.k c.requires room slot_room (omega arith)).here

pub returns-clause-slot : goal.returns-clause-slot
returns-clause-slot c =
    let m = c.args.m.now in
    let room : length m.manifest.entries ≡ 16 = search rules in
    let slot_room : length m.slots ≡ 16 = search rules in
    let lt = c.if-k-m.false in
    (is_entry m c.args.k c.requires room slot_room (omega arith)).slot

pub returns-clause-entry : goal.returns-clause-entry
returns-clause-entry c =
    let m = c.args.m.now in
    let room : length m.manifest.entries ≡ 16 = search rules in
    let slot_room : length m.slots ≡ 16 = search rules in
    let lt = c.if-k-m.false in
    (is_entry m c.args.k c.requires room slot_room (omega arith)).entry
