use Rattle.std.proofs.Common.{sym, subst, eqb}
use Rattle.release_rows.specs.declared.row.ComponentRow.{ComponentRow}
use Rattle.release_keeper.specs.Index.{PointsAt, at_number}
use Rattle.release_keeper.proofs.Index.{points_take}
use Rattle.release_keeper.proofs.components.ComponentRows.truncate.Goals as goal

pub invariant_of-self : goal.invariant_of-self
invariant_of-self c =
    subst (PointsAt (λ number (r : ComponentRow). eqb r.number number) (at_number c.self.inside.by_number)) (sym c.truncate.ensures) (points_take (λ number (r : ComponentRow). eqb r.number number) (at_number c.self.inside.by_number) c.args.count c.self.inside.rows c.self.invariant)
