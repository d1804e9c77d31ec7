-- A set in slots, its plan, and the area of merged symbols.
use Rattle.std.specs.Prelude.{◌≡◌, ℕ, List, length, take, map}
use Rattle.std.specs.List.{concat}
use Rattle.flash_pages.specs.State.{State}
use Rattle.component_package.specs.declared.part.Header.{Header}
use Rattle.component_package.specs.declared.areas.TheConstants.{SYMBOLS}
use Rattle.component_package.specs.packages.Component.{Component}
use Rattle.component_package.specs.link.Layout.{Room}
use Rattle.component_package.specs.link.Link.{rooms_of}
use Rattle.component_package.specs.packages.Manifest.{stored_of}
use Rattle.component_package.specs.link.Sets as link
use Rattle.component_package.specs.mote.Store.{slots_of, components_of}
use Rattle.component_package.specs.mote.Sides.{pages_from}
use Rattle.component_store.specs.declared.set.StoredSet.{StoredSet}
use Rattle.layout_plan.specs.declared.plan.Plan.{Plan}
use Rattle.layout_plan.specs.Plan.{IsPlan, IsPlanned}

-- the components that the slots hold for a set, where they hold it
abbrev pub set_in : State → StoredSet → List Component
set_in s set = components_of (slots_of s.ext) (stored_of set.slots)

-- the bytes of the 32 pages of merged symbols
abbrev pub symbol_area : State → List ℕ
symbol_area s = concat (pages_from SYMBOLS 32 s.ext)

abbrev pub header_room : Header → Room
header_room h = record { code = h.code; init = h.init; bss = h.bss }

-- how much room the components of a set take, by their headers
abbrev pub stored_rooms : StoredSet → List Room
stored_rooms set = map header_room (take set.slots.manifest.count set.headers)

-- the condition on a plan that a call takes: it is what `plan_of` answers for the set's headers
pub record IsPlanOf (set : StoredSet) (p : Plan) : Type 0 where
  pub plan : IsPlan (stored_rooms set) p
  pub planned : IsPlanned p

-- what is known of a set that a board holds
pub record IsOwnSet (s : State) (set : StoredSet) : Type 0 where
  pub is : link.IsSet (set_in s set)
  pub count : length (set_in s set) ≡ set.slots.manifest.count
  pub rooms : rooms_of (set_in s set) ≡ stored_rooms set
