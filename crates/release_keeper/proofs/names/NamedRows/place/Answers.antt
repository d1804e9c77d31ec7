use Rattle.std.proofs.Common.{ap, sym, ◌∙◌, ℕ, List}
use Rattle.std.specs.Prelude.{bytes_eq}
use Rattle.std.specs.Cmp.Lexicographic.{nat_list_eq_equiv}
use Rattle.release_keeper.specs.Index.{at_name}
use Rattle.release_keeper.proofs.Index.{no_place, past_place, other_place, this_place}
use Rattle.release_keeper.proofs.names.NamedRows.place.Goals as goal

pub returns-in_err-place : goal.returns-in_err-place
returns-in_err-place g c =
    c.from_residual.ensures ∙ rw (← c.self.view_is) (no_place (λ name r. bytes_eq name (g.R.Named.name r)) (at_name c.self.inside.by_name) c.self.inside.rows.items c.args.name.now c.self.invariant.points c.in_err-place.ensures.value)

pub returns-in_err-row : goal.returns-in_err-row
returns-in_err-row g c =
    c.from_residual-in_err-row.ensures ∙ rw (← c.self.view_is) (past_place (λ name r. bytes_eq name (g.R.Named.name r)) (at_name c.self.inside.by_name) c.self.inside.rows.items c.deref.result.now c.args.name.now c.in_ok-place.field-0.now c.self.invariant.points c.in_ok-place.ensures.value c.deref.ensures.value c.in_err-row.ensures.lookup.3)

pub returns-then-eq : goal.returns-then-eq
returns-then-eq g c =
    rw (← c.self.view_is) (this_place (λ name r. bytes_eq name (g.R.Named.name r)) (at_name c.self.inside.by_name) c.self.inside.rows.items c.deref.result.now c.args.name.now c.in_ok-place.field-0.now c.in_ok-row.row.now c.self.invariant.points
    c.in_ok-place.ensures.value c.deref.ensures.value c.in_ok-row.ensures.lookup.3.0 c.in_ok-row.ensures.lookup.1
    (nat_list_eq_equiv.symm c.args.name.now (g.R.Named.name c.in_ok-row.row.now) ∙ ap (λ (l : List ℕ). bytes_eq l c.args.name.now) (sym c.name.ensures) ∙ sym c.eq.ensures ∙ c.if-eq.true))

pub returns-else-eq : goal.returns-else-eq
returns-else-eq g c =
    rw (← c.self.view_is) (other_place (λ name r. bytes_eq name (g.R.Named.name r)) (at_name c.self.inside.by_name) c.self.inside.rows.items c.deref.result.now c.args.name.now c.in_ok-place.field-0.now c.in_ok-row.row.now c.self.invariant.points
    c.in_ok-place.ensures.value c.deref.ensures.value c.in_ok-row.ensures.lookup.1
    (nat_list_eq_equiv.symm c.args.name.now (g.R.Named.name c.in_ok-row.row.now) ∙ ap (λ (l : List ℕ). bytes_eq l c.args.name.now) (sym c.name.ensures) ∙ sym c.eq.ensures ∙ c.if-eq.false))
