-- A set with the places of its parts and the slots of its symbols.
use Rattle.std.specs.Prelude.{ℕ, List}
use Rattle.std.specs.BTreeMap.{BTreeMap}
use Rattle.component_package.specs.packages.Component.{Component}
use Rattle.component_package.specs.link.Sets.{IsSet}
use Rattle.component_package.specs.link.Link.{rooms_of, exports_of}
use Rattle.layout_plan.specs.declared.plan.Plan.{Plan}
use Rattle.layout_plan.specs.Plan.{IsPlan, IsPlanned}
use Rattle.full_linker.specs.declared.symbols.Slot.{Slot}
use Rattle.full_linker.specs.Slots.{AreSlots}

-- the plan and the slots are those of the set
pub record IsPlaced (set : List Component) (p : Plan) (table : BTreeMap ℕ Slot) : Type 0 where
  pub components : IsSet set
  pub plan : IsPlan (rooms_of set) p
  pub planned : IsPlanned p
  pub slots : AreSlots (exports_of set) table
