-- A set that a board holds, its plan, and the area of merged symbols.
use Rattle.std.specs.Prelude.{◌≡◌, ℕ, List, length, take, map}
use Rattle.std.specs.List.{concat}
use Rattle.flash_pages.specs.State.{State}
use Rattle.component_package.specs.declared.part.Header.{Header}
use Rattle.component_package.specs.declared.areas.TheConstants.{SYMBOLS}
use Rattle.component_package.specs.packages.Component.{Component}
use Rattle.component_package.specs.link.Layout.{Room}
use Rattle.component_package.specs.link.Link.{rooms_of}
use Rattle.component_package.specs.link.Sets as link
use Rattle.component_package.specs.mote.Sides.{pages_from}
use Rattle.kept_store.specs.declared.set.StoredSet.{StoredSet}
use Rattle.layout_plan.specs.declared.plan.Plan.{Plan}
use Rattle.layout_plan.specs.Plan.{IsPlan, IsPlanned}

-- the bytes of the 32 pages of merged symbols
abbrev pub symbol_area : State → List ℕ
symbol_area s = concat (pages_from SYMBOLS 32 s.ext)

abbrev pub header_room : Header → Room
header_room h = record { code = h.code; init = h.init; bss = h.bss }

-- how much room the components of a set take, by their headers
abbrev pub stored_rooms : StoredSet → List Room
stored_rooms set = map header_room (take set.slots.manifest.count set.headers)

-- the condition on a plan that a call takes: it is what `plan_of` answers for the set's headers
pub record IsPlanOf (set : StoredSet) (p : Plan) : Type 0 where
  pub plan : IsPlan (stored_rooms set) p
  pub planned : IsPlanned p

-- what is known of the components of a set that a board holds
pub record IsOwnSet (set : StoredSet) (components : List Component) : Type 0 where
  pub is : link.IsSet components
  pub count : length components ≡ set.slots.manifest.count
  pub rooms : rooms_of components ≡ stored_rooms set
