-- What is answered of the package in a slot.
use Rattle.std.specs.Prelude.{◌≡◌, ◌==◌, ◌&&◌, Bool, true, false, ℕ, List, Option, Some, None, Result, Ok, Err, if◌then◌else◌}
use Rattle.std.specs.Option.{option_or, option_map}
use Rattle.component_package.specs.declared.manifest.Entry.{Entry}
use Rattle.component_package.specs.declared.part.Header.{Header}
use Rattle.component_package.specs.declared.fault.PackageFault.{PackageFault}
use Rattle.component_package.specs.packages.Reading.{package_fault, header_of, exports_fault, relocs_fault}
use Rattle.component_store.specs.declared.set.StoreFault.{StoreFault}
use Rattle.component_store.specs.declared.set.StoreFault.TheVariants.{Fault, Page, PieceLength, Package, Identity}

-- a header of the entry's component and version
abbrev pub is_of : Entry → Header → Bool
is_of e h = h.component == e.component && h.version == e.version

-- what is wrong with an entry's package: its own first fault, or that it is another component's or version's
abbrev pub package_answer : Entry → List ℕ → Option StoreFault
package_answer e b = option_or (option_map Package (package_fault b)) (if is_of e (header_of b) then None else Some Identity)

-- what is wrong with a package behind its header
abbrev pub records_fault : List ℕ → Option PackageFault
records_fault b = option_or (exports_fault b) (relocs_fault b)

-- where the call of the board didn't fail, the error is this
abbrev pub FaultIs : {A : Type 0} → Result A StoreFault → Option StoreFault → Type 0
FaultIs (Ok a) f = f ≡ None
FaultIs (Err e) f = f ≡ Some e

-- the answers of a check of a package
abbrev pub is_of_package : StoreFault → Bool
is_of_package Fault = true
is_of_package (Package f) = true
is_of_package Identity = true
is_of_package Page = false
is_of_package PieceLength = false
