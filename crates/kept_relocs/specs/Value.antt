-- A plan, as the values of relocations are computed with it.
use Rattle.std.specs.Prelude.{List}
use Rattle.component_package.specs.link.Layout.{Room}
use Rattle.layout_plan.specs.declared.plan.Plan.{Plan}
use Rattle.layout_plan.specs.Plan.{IsPlan, IsPlanned}

-- the plan of some components
pub record IsSomePlan (p : Plan) : Type 0 where
  pub rooms : List Room
  pub plan : IsPlan rooms p
  pub planned : IsPlanned p
