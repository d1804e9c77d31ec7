-- What a fault of the linker says.
use Rattle.std.specs.Prelude.{◌≡◌, ◌≢◌, ℕ, Option, Some, None}
use Rattle.component_package.specs.link.Link.{Cause, FlashFull, RamFull, Symbols, Relocations, Duplicate, Undefined, Range}
use Rattle.full_linker.specs.declared.fault.LinkFault.{LinkFault}
use Rattle.full_linker.specs.declared.fault.LinkFault.TheVariants as faults

-- the cause that a fault names; want of memory names none
abbrev pub cause_of : LinkFault → Option Cause
cause_of (faults.Flash t) = Some (FlashFull t)
cause_of (faults.Ram t) = Some (RamFull t)
cause_of (faults.Symbols n) = Some (Symbols n)
cause_of (faults.Relocations n) = Some (Relocations n)
cause_of (faults.Duplicate s i j) = Some (Duplicate s i j)
cause_of (faults.Undefined k r s) = Some (Undefined k r s)
cause_of (faults.Range k r f) = Some (Range k r f)
cause_of faults.Memory = None

-- the fault is want of memory, or this cause
abbrev pub Says : LinkFault → Option Cause → Type 0
Says faults.Memory cause = Unit {0}
Says f cause = cause ≡ cause_of f

-- a test found this cause, or none
abbrev pub Finds : Option LinkFault → Option Cause → Type 0
Finds None cause = cause ≡ None
Finds (Some f) cause = (cause ≡ cause_of f) × (f ≢ faults.Memory)

-- the number of a fault
abbrev pub number_of_fault : LinkFault → ℕ
number_of_fault (faults.Flash t) = 1
number_of_fault (faults.Ram t) = 2
number_of_fault (faults.Symbols n) = 3
number_of_fault (faults.Relocations n) = 4
number_of_fault (faults.Duplicate s i j) = 5
number_of_fault (faults.Undefined k r s) = 6
number_of_fault (faults.Range k r f) = 7
number_of_fault faults.Memory = 8
