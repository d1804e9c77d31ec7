-- The plan of a set by its sizes.
use Rattle.std.specs.Prelude.{◌≡◌, ℕ, ◌+◌, ◌<◌, ◌≤◌, List, length, map, slice_index, nat_lt, Option, Some, None, if◌then◌else◌}
use Rattle.component_package.specs.declared.limits.TheConstants.{IMAGE_BYTES, RAM_BYTES}
use Rattle.component_package.specs.link.Layout.{Room, code_total, init_total, bss_total, code_base, load_base, ram_base, bss_base}
use Rattle.layout_plan.specs.declared.plan.Sizes.{Sizes}
use Rattle.layout_plan.specs.declared.plan.Part.{Part}
use Rattle.layout_plan.specs.declared.plan.Part.TheVariants as parts
use Rattle.layout_plan.specs.declared.plan.Plan.{Plan}
use Rattle.layout_plan.specs.declared.plan.PlanFault.{PlanFault}
use Rattle.layout_plan.specs.declared.plan.PlanFault.TheVariants.{Flash, Ram}

-- the length of a part
abbrev pub size_of : Part → Sizes → ℕ
size_of parts.Code s = s.code
size_of parts.Init s = s.init
size_of parts.Bss s = s.bss

-- how much room a component takes
abbrev pub room : Sizes → Room
room s = record { code = s.code; init = s.init; bss = s.bss }

abbrev pub rooms : List Sizes → List Room
rooms sizes = map room sizes

-- an array has these numbers up to n
abbrev pub Begins : List ℕ → ℕ → (ℕ → ℕ) → Type 0
Begins xs n f = (i : ℕ) → i < n → slice_index xs i ≡ f i

-- the plan has the bases and the totals of components with these rooms
pub record IsPlan (rs : List Room) (p : Plan) : Type 0 where
  pub count : p.count ≡ length rs
  pub code : Begins p.code (length rs) (code_base rs)
  pub load : Begins p.load (length rs) (load_base rs)
  pub ram : Begins p.ram (length rs) (ram_base rs)
  pub bss : Begins p.bss (length rs) (bss_base rs)
  pub code_total : p.code_total ≡ code_total rs
  pub init_total : p.init_total ≡ init_total rs
  pub bss_total : p.bss_total ≡ bss_total rs

-- the first fault: too much for program flash, then too much for RAM
abbrev pub plan_fault : List Room → Option PlanFault
plan_fault rs =
    if nat_lt IMAGE_BYTES (code_total rs + init_total rs) then Some (Flash (code_total rs + init_total rs))
    else if nat_lt RAM_BYTES (init_total rs + bss_total rs) then Some (Ram (init_total rs + bss_total rs))
    else None

-- a plan that `plan_of` answers for some components: they are at most 16, and have room
pub record IsPlanned (p : Plan) : Type 0 where
  pub count : p.count ≤ 16
  pub flash : p.code_total + p.init_total ≤ IMAGE_BYTES
  pub ram : p.init_total + p.bss_total ≤ RAM_BYTES
