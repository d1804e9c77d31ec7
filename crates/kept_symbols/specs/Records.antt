-- Records that a merge makes, page by page.
use Rattle.std.specs.Prelude.{◌≡◌, ◌⊎◌, ℕ, ◌*◌, ◌<◌, ◌≤◌, false, nat_le, List, [], ◌∷◌, ◌++◌, length, Option, Some, None, Result, Ok, Err}
use Rattle.std.specs.List.{concat}
use Rattle.flash_pages.specs.State.{State}
use Rattle.component_package.specs.declared.part.Place.{Place}
use Rattle.component_package.specs.declared.part.Place.TheVariants as places
use Rattle.component_package.specs.packages.Component.{Component}
use Rattle.component_package.specs.link.Layout.{Room, code_base, ram_base, bss_base}
use Rattle.component_package.specs.link.Link.{definition_of, strong_exporters, duplicate_cause}
use Rattle.component_package.specs.link.Link as causes
use Rattle.component_package.specs.link.Areas.{MergedSymbol, symbol_bytes, area_bytes}
use Rattle.component_package.specs.mote.Sides.{pages_from}
use Rattle.layout_plan.specs.declared.plan.Plan.{Plan}
use Rattle.layout_plan.specs.Plan.{IsPlan, IsPlanned}
use Rattle.kept_symbols.specs.declared.fault.MergeFault.{MergeFault}
use Rattle.kept_symbols.specs.declared.fault.MergeFault.TheVariants.{Fault, Symbols, Duplicate}
use Rattle.kept_symbols.specs.declared.walk.Walk.{Walk}
use Rattle.kept_symbols.specs.Walks.{IsAt, table_to}

-- ---- addresses

-- where the values of a kind of place count from, for component k
abbrev pub base_in : List Room → ℕ → Place → ℕ
base_in rooms k places.Code = code_base rooms k
base_in rooms k places.Init = ram_base rooms k
base_in rooms k places.Bss = bss_base rooms k
base_in rooms k places.Absolute = 0

-- the plan of some components that have room
pub record IsSomePlan (p : Plan) : Type 0 where
  pub rooms : List Room
  pub plan : IsPlan rooms p
  pub planned : IsPlanned p

-- ---- one record

-- no symbol below `low` has two exporters that are not weak
abbrev pub NoneTwice : List Component → ℕ → Type 0
NoneTwice set low = (s : ℕ) → s < low → nat_le 2 (length (strong_exporters set s)) ≡ false

-- no symbol from `low` on is exported
abbrev pub NoneFrom : List Component → ℕ → Type 0
NoneFrom set low = (s : ℕ) → low ≤ s → definition_of set s ≡ None

-- the next record, and the walk behind its symbol
pub record IsNextRecord (set : List Component) (low : ℕ) (raw : List ℕ) (w : Walk) : Type 0 where
  pub high : ℕ
  pub record_of : MergedSymbol
  pub on : low ≤ high
  pub at : IsAt set high w
  pub single : NoneTwice set low → NoneTwice set high
  pub grown : table_to set high ≡ table_to set low ++ record_of ∷ []
  pub bytes : raw ≡ symbol_bytes record_of

-- what is answered of a set by a walk behind the symbols below `low`
abbrev pub NextIs : List Component → ℕ → Walk → Result (Option (List ℕ)) MergeFault → Type 0
NextIs set low w (Ok None) = IsAt set low w × NoneFrom set low
NextIs set low w (Ok (Some raw)) = IsNextRecord set low raw w
NextIs set low w (Err Fault) = Unit {0}
NextIs set low w (Err (Symbols n)) = Unit {0}
NextIs set low w (Err (Duplicate s i j)) =
    NoneTwice set low → duplicate_cause set ≡ Some (causes.Duplicate s i j)

-- ---- one page

-- so many bytes of records, and 0xFF behind them
abbrev pub records_in : ℕ → List MergedSymbol → List ℕ
records_in size rs = area_bytes symbol_bytes size rs

-- a page holds so many records from `low` on: as many as it has room for, or all
pub record IsFilled (set : List Component) (low made : ℕ) (page : List ℕ) (w : Walk) : Type 0 where
  pub high : ℕ
  pub records : List MergedSymbol
  pub on : low ≤ high
  pub at : IsAt set high w
  pub single : NoneTwice set low → NoneTwice set high
  pub grown : table_to set high ≡ table_to set low ++ records
  pub count : length records ≡ made
  pub bytes : page ≡ records_in 256 records
  pub full : (made ≡ 32) ⊎ NoneFrom set high

abbrev pub FillIs : List Component → ℕ → List ℕ → Walk → Result ℕ MergeFault → Type 0
FillIs set low page w (Ok made) = IsFilled set low made page w
FillIs set low page w (Err Fault) = Unit {0}
FillIs set low page w (Err (Symbols n)) = Unit {0}
FillIs set low page w (Err (Duplicate s i j)) =
    NoneTwice set low → duplicate_cause set ≡ Some (causes.Duplicate s i j)

-- ---- all pages

-- the first pages of the area hold the n records so far, and 0xFF behind them
pub record HasMerged (set : List Component) (pages n : ℕ) (w : Walk) (x : State) : Type 0 where
  pub low : ℕ
  pub at : IsAt set low w
  pub single : NoneTwice set low
  pub count : length (table_to set low) ≡ n
  pub room : n ≤ 32 * pages
  pub bytes : concat (pages_from 18 pages x.ext) ≡ records_in (256 * pages) (table_to set low)
  pub full : (n ≡ 32 * pages) ⊎ NoneFrom set low
