use Rattle.std.proofs.Common.{ap, sym, subst, ◌∙◌, ℕ, eqb}
use Rattle.std.proofs.lemmas.Bool.{and_parts, eqb-true}
use Rattle.release_rows.specs.Change.{IsPackageOf}
use Rattle.std.specs.Option.{option_copied}
use Rattle.release_rows.specs.Tables.{is_version}
use Rattle.release_keeper.specs.Versions.{at_version}
use Rattle.release_keeper.proofs.Index.{no_row, past_row, other_row, this_row, all_at}
use Rattle.release_keeper.proofs.versions.VersionRows.get.Goals as goal

pub returns-in_err-place-clause-row : goal.returns-in_err-place-clause-row
returns-in_err-place-clause-row c =
    ap option_copied c.from_residual.ensures ∙ rw (← c.self.view_is) (no_row (λ (key : ℕ × ℕ). is_version key.0 key.1) (at_version c.self.inside.places) c.self.inside.rows.items (c.args.component, c.args.version) c.self.invariant.points c.in_err-place.ensures.value)

pub returns-in_err-row-clause-row : goal.returns-in_err-row-clause-row
returns-in_err-row-clause-row c =
    ap option_copied c.from_residual-in_err-row.ensures ∙ rw (← c.self.view_is) (past_row (λ (key : ℕ × ℕ). is_version key.0 key.1) (at_version c.self.inside.places) c.self.inside.rows.items c.deref.result.now (c.args.component, c.args.version) c.in_ok-place.field-0.now c.self.invariant.points c.in_ok-place.ensures.value c.deref.ensures.value c.in_err-row.ensures.lookup.3)

pub returns-then-has_numbers-clause-row : goal.returns-then-has_numbers-clause-row
returns-then-has_numbers-clause-row c =
    rw (← c.self.view_is) (this_row (λ (key : ℕ × ℕ). is_version key.0 key.1) (at_version c.self.inside.places) c.self.inside.rows.items c.deref.result.now (c.args.component, c.args.version) c.in_ok-place.field-0.now c.in_ok-row.row.now c.self.invariant.points c.in_ok-place.ensures.value c.deref.ensures.value c.in_ok-row.ensures.lookup.3.0 c.in_ok-row.ensures.lookup.1 (sym c.has_numbers.ensures ∙ c.if-has_numbers.true))

pub returns-else-has_numbers-clause-row : goal.returns-else-has_numbers-clause-row
returns-else-has_numbers-clause-row c =
    rw (← c.self.view_is) (other_row (λ (key : ℕ × ℕ). is_version key.0 key.1) (at_version c.self.inside.places) c.self.inside.rows.items c.deref.result.now (c.args.component, c.args.version) c.in_ok-place.field-0.now c.in_ok-row.row.now c.self.invariant.points c.in_ok-place.ensures.value c.deref.ensures.value c.in_ok-row.ensures.lookup.1 (sym c.has_numbers.ensures ∙ c.if-has_numbers.false))

pub returns-then-has_numbers-clause-grammar : goal.returns-then-has_numbers-clause-grammar
returns-then-has_numbers-clause-grammar c =
    let row = c.in_ok-row.row.now in
    let tests = and_parts (eqb row.component c.args.component) (eqb row.version c.args.version) (sym c.has_numbers.ensures ∙ c.if-has_numbers.true) in
    let stored : IsPackageOf row.component row.version row.bytes =
    all_at (λ r. IsPackageOf r.component r.version r.bytes) c.self.inside.rows.items c.deref.result.now c.in_ok-place.field-0.now row c.self.invariant.packages c.deref.ensures.value
    c.in_ok-row.ensures.lookup.3.0 c.in_ok-row.ensures.lookup.1 in
    subst (λ (n : ℕ). IsPackageOf n c.args.version row.bytes) (eqb-true row.component c.args.component tests.0)
    (subst (λ (n : ℕ). IsPackageOf row.component n row.bytes) (eqb-true row.version c.args.version tests.1) stored)
