-- What the calls answer of a set and of a table.
use Rattle.std.specs.Prelude.{◌≡◌, ℕ, Bool, true, false, List, length, Some, None, Result, Ok, Err, nat_lt, if◌then◌else◌}
use Rattle.component_package.specs.packages.Component.{Component}
use Rattle.component_package.specs.link.Link.{distinct, symbols_of, symbols_cause, duplicate_cause}
use Rattle.component_package.specs.link.Link as causes
use Rattle.component_package.specs.link.Areas.{MergedSymbol, Tells}
use Rattle.component_package.specs.link.Pages.{IsTableOf}
use Rattle.kept_symbols.specs.declared.fault.MergeFault.{MergeFault}
use Rattle.kept_symbols.specs.declared.fault.MergeFault.TheVariants.{Fault, Symbols, Duplicate}

-- the number of a fault
abbrev pub number_of_fault : MergeFault → ℕ
number_of_fault Fault = 1
number_of_fault (Symbols n) = 2
number_of_fault (Duplicate s i j) = 3

-- a call of the board failed
abbrev pub is_fault : {A : Type 0} → Result A MergeFault → Bool
is_fault (Ok a) = false
is_fault (Err Fault) = true
is_fault (Err (Symbols n)) = false
is_fault (Err (Duplicate s i j)) = false

-- the answers of a count, and those of a merge
abbrev pub is_of_count : {A : Type 0} → Result A MergeFault → Bool
is_of_count (Ok a) = true
is_of_count (Err Fault) = true
is_of_count (Err (Symbols n)) = true
is_of_count (Err (Duplicate s i j)) = false

abbrev pub is_of_merge : {A : Type 0} → Result A MergeFault → Bool
is_of_merge (Ok a) = true
is_of_merge (Err Fault) = true
is_of_merge (Err (Symbols n)) = false
is_of_merge (Err (Duplicate s i j)) = true

-- the number of symbols, where it is at most 1,024
abbrev pub limited : ℕ → Result ℕ MergeFault
limited n = if nat_lt 1024 n then Err (Symbols n) else Ok n

-- what a count says of a set, where no call of the board failed: how many different symbols it
-- exports, or that they are too many
abbrev pub Counts : List Component → Result ℕ MergeFault → Type 0
Counts set (Ok n) = (symbols_cause set ≡ None) × (length (distinct (symbols_of set)) ≡ n)
Counts set (Err Fault) = Unit {0}
Counts set (Err (Symbols n)) = symbols_cause set ≡ Some (causes.Symbols n)
Counts set (Err (Duplicate s i j)) = ⊥

-- the area is the set's own table, which has n records, and no symbol has two exporters that are not weak
pub record IsMerged (set : List Component) (area : List ℕ) (n : ℕ) : Type 0 where
  pub single : duplicate_cause set ≡ None
  pub table : List MergedSymbol
  pub is : IsTableOf set table
  pub tells : Tells area table
  pub count : length table ≡ n

-- what a merge says of a set and leaves in the area, where no call of the board failed
abbrev pub Merges : List Component → List ℕ → Result ℕ MergeFault → Type 0
Merges set area (Ok n) = IsMerged set area n
Merges set area (Err Fault) = Unit {0}
Merges set area (Err (Symbols n)) = ⊥
Merges set area (Err (Duplicate s i j)) = duplicate_cause set ≡ Some (causes.Duplicate s i j)
