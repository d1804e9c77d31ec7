-- The numbers of a fault.
use Rattle.std.specs.Prelude.{ℕ}
use Rattle.avr_elf.specs.declared.fault.ElfFault.{ElfFault}
use Rattle.avr_elf.specs.declared.fault.ElfFault.TheVariants as faults

-- each fault's number
abbrev pub number_of : ElfFault → ℕ
number_of (faults.Short at) = 1
number_of (faults.NotElf at) = 2
number_of (faults.NotAvr at) = 3
number_of (faults.NotRelocatable at) = 4
number_of (faults.SectionTable at) = 5
number_of (faults.StringTable at) = 6
number_of (faults.SymbolTable at) = 7
number_of (faults.RelocationTable at) = 8
number_of (faults.SymbolIndex at) = 9
number_of (faults.Unsupported at kind) = 10

-- where in the file each fault is
abbrev pub offset_of : ElfFault → ℕ
offset_of (faults.Short at) = at
offset_of (faults.NotElf at) = at
offset_of (faults.NotAvr at) = at
offset_of (faults.NotRelocatable at) = at
offset_of (faults.SectionTable at) = at
offset_of (faults.StringTable at) = at
offset_of (faults.SymbolTable at) = at
offset_of (faults.RelocationTable at) = at
offset_of (faults.SymbolIndex at) = at
offset_of (faults.Unsupported at kind) = at
