use Rattle.std.proofs.Common.{ap, sym, ◌∙◌, ℕ, List}
use Rattle.std.specs.Option.{option_copied}
use Rattle.release_rows.specs.Tables.{is_release}
use Rattle.release_keeper.specs.Releases.{at_release}
use Rattle.release_keeper.proofs.Index.{no_row, past_row, other_row, this_row}
use Rattle.release_keeper.proofs.releases.ReleaseRows.get.Goals as goal

pub returns-in_err-place-clause-row : goal.returns-in_err-place-clause-row
returns-in_err-place-clause-row c =
    ap option_copied c.from_residual.ensures ∙ rw (← c.self.view_is) (no_row (λ (key : List ℕ × ℕ). is_release key.0 key.1) (at_release c.self.inside.places) c.self.inside.rows.items (c.args.key.now.mote.items, c.args.key.now.number) c.self.invariant.points c.in_err-place.ensures.value)

pub returns-in_err-row-clause-row : goal.returns-in_err-row-clause-row
returns-in_err-row-clause-row c =
    ap option_copied c.from_residual-in_err-row.ensures ∙ rw (← c.self.view_is) (past_row (λ (key : List ℕ × ℕ). is_release key.0 key.1) (at_release c.self.inside.places) c.self.inside.rows.items c.deref.result.now (c.args.key.now.mote.items, c.args.key.now.number) c.in_ok-place.field-0.now c.self.invariant.points c.in_ok-place.ensures.value c.deref.ensures.value c.in_err-row.ensures.lookup.3)

pub returns-then-has_key-clause-row : goal.returns-then-has_key-clause-row
returns-then-has_key-clause-row c =
    rw (← c.self.view_is) (this_row (λ (key : List ℕ × ℕ). is_release key.0 key.1) (at_release c.self.inside.places) c.self.inside.rows.items c.deref.result.now (c.args.key.now.mote.items, c.args.key.now.number) c.in_ok-place.field-0.now c.in_ok-row.row.now c.self.invariant.points c.in_ok-place.ensures.value c.deref.ensures.value c.in_ok-row.ensures.lookup.3.0 c.in_ok-row.ensures.lookup.1 (sym c.has_key.ensures ∙ c.if-has_key.true))

pub returns-else-has_key-clause-row : goal.returns-else-has_key-clause-row
returns-else-has_key-clause-row c =
    rw (← c.self.view_is) (other_row (λ (key : List ℕ × ℕ). is_release key.0 key.1) (at_release c.self.inside.places) c.self.inside.rows.items c.deref.result.now (c.args.key.now.mote.items, c.args.key.now.number) c.in_ok-place.field-0.now c.in_ok-row.row.now c.self.invariant.points c.in_ok-place.ensures.value c.deref.ensures.value c.in_ok-row.ensures.lookup.1 (sym c.has_key.ensures ∙ c.if-has_key.false))
