use Rattle.std.proofs.Common.{ap, sym, ◌∙◌, List, eqb}
use Rattle.std.specs.List.{find}
use Rattle.release_rows.specs.declared.row.ComponentRow.{ComponentRow}
use Rattle.release_keeper.proofs.Index.{knows_row}
use Rattle.release_keeper.proofs.Added.{numbered_noted, numbered_added}
use Rattle.release_keeper.proofs.components.ComponentRows.push.Goals as goal

pub invariant_of-self-2 : goal.invariant_of-self-2
invariant_of-self-2 c =
    let p = (λ (r : ComponentRow). eqb r.number c.args.row.number) in
    numbered_added c.is_some-known.result c.self.inside.by_number c.note.new.places c.self.inside.rows c.push.new.self c.args.row c.count-place.result c.in_ok-push.ensures.ok c.count-place.ensures
    (knows_row c.is_some-known.result p c.self.inside.rows c.numbered.result c.is_some-known.ensures (c.numbered.ensures ∙ ap (find p) (sym c.self.view_is)))
    c.in_ok-note.ensures.ok c.self.invariant

pub invariant_of-self-in_err-push : goal.invariant_of-self-in_err-push
invariant_of-self-in_err-push c =
    let p = (λ (r : ComponentRow). eqb r.number c.args.row.number) in
    numbered_noted c.is_some-known.result c.self.inside.by_number c.note.new.places c.self.inside.rows c.push.new.self c.args.row.number c.count-place.result c.in_err-push.ensures.err
    (knows_row c.is_some-known.result p c.self.inside.rows c.numbered.result c.is_some-known.ensures (c.numbered.ensures ∙ ap (find p) (sym c.self.view_is)))
    c.in_ok-note.ensures.ok c.self.invariant
