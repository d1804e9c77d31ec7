use Rattle.std.proofs.Common.{◌≡◌, ap, ◌∙◌, List}
use Rattle.release_rows.specs.declared.row.AckRow.{AckRow}
use Rattle.release_keeper.specs.Tables.{memory_tables}
use Rattle.release_keeper.proofs.Acks.{ack_same, ack_put, ack_new}
use Rattle.release_keeper.proofs.tables.MemoryTables.acknowledge.Goals as goal

pub replace-requires-clause-same : goal.replace-requires-clause-same
replace-requires-clause-same c =
    λ d. c.in_ok-copy_text.ensures
    ∙ ack_same c.args.mote.now c.args.release c.args.self.now.acks c.as_bytes.result.now (c.as_bytes.ensures.value ∙ c.as_str.ensures) c.in-Some.place c.in-Some.ensures d

pub returns-in-Some-clause-ok : goal.returns-in-Some-clause-ok
returns-in-Some-clause-ok c =
    let same : ◌≡◌ {A = AckRow} (record { mote = c.in_ok-copy_text.field-0; number = c.args.release }) (record { mote = c.args.mote.now; number = c.args.release }) =
    (λ i. record { mote = c.in_ok-copy_text.ensures i; number = c.args.release }) in
    ap (λ (acks : List AckRow). record (memory_tables c.args.self.now) { acks = acks })
    (c.replace.ensures ∙ ack_put c.args.mote.now c.args.release c.args.self.now.acks c.as_bytes.result.now (c.as_bytes.ensures.value ∙ c.as_str.ensures) c.in-Some.place _ same c.in-Some.ensures)

pub returns-in_ok-push-in-None-clause-ok : goal.returns-in_ok-push-in-None-clause-ok
returns-in_ok-push-in-None-clause-ok c =
    let same : ◌≡◌ {A = AckRow} (record { mote = c.in_ok-copy_text.field-0; number = c.args.release }) (record { mote = c.args.mote.now; number = c.args.release }) =
    (λ i. record { mote = c.in_ok-copy_text.ensures i; number = c.args.release }) in
    ap (λ (acks : List AckRow). record (memory_tables c.args.self.now) { acks = acks })
    (c.in_ok-push-in-None.ensures.ok ∙ ack_new c.args.mote.now c.args.release c.args.self.now.acks c.as_bytes.result.now (c.as_bytes.ensures.value ∙ c.as_str.ensures) _ same c.in-None.ensures)
