use Rattle.std.proofs.lemmas.Bool.{eq-eqb, ne_eqb}
use Rattle.std.proofs.Common.{ap, ◌∙◌, eqb}
use Rattle.std.specs.Option.{option_copied}
use Rattle.release_rows.specs.declared.row.ComponentRow.{ComponentRow}
use Rattle.release_keeper.specs.Index.{at_number}
use Rattle.release_keeper.proofs.Index.{no_row, past_found, other_found, this_found}
use Rattle.release_keeper.proofs.components.ComponentRows.numbered.Goals as goal

pub returns-in_err-place : goal.returns-in_err-place
returns-in_err-place c =
    ap option_copied c.from_residual.ensures ∙ rw (← c.self.view_is) (no_row (λ number (r : ComponentRow). eqb r.number number) (at_number c.self.inside.by_number) c.self.inside.rows c.args.number c.self.invariant c.in_err-place.ensures.value)

pub returns-in_err-row : goal.returns-in_err-row
returns-in_err-row c =
    ap option_copied c.from_residual-in_err-row.ensures ∙ rw (← c.self.view_is) (past_found (λ number (r : ComponentRow). eqb r.number number) (at_number c.self.inside.by_number) c.self.inside.rows c.args.number c.in_ok-place.field-0.now c.self.invariant c.in_ok-place.ensures.value c.in_err-row.ensures)

pub returns-then-row-number : goal.returns-then-row-number
returns-then-row-number c =
    rw (← c.self.view_is) (this_found (λ number (r : ComponentRow). eqb r.number number) (at_number c.self.inside.by_number) c.self.inside.rows c.args.number c.in_ok-place.field-0.now c.self.invariant c.in_ok-place.ensures.value c.in_ok-row.row.now c.in_ok-row.ensures (eq-eqb c.in_ok-row.row.now.number c.args.number c.if-row-number.true))

pub returns-else-row-number : goal.returns-else-row-number
returns-else-row-number c =
    rw (← c.self.view_is) (other_found (λ number (r : ComponentRow). eqb r.number number) (at_number c.self.inside.by_number) c.self.inside.rows c.args.number c.in_ok-place.field-0.now c.self.invariant c.in_ok-place.ensures.value c.in_ok-row.row.now c.in_ok-row.ensures (ne_eqb c.in_ok-row.row.now.number c.args.number c.if-row-number.false))
