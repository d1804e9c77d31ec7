-- The numbers that go with the refusal of an object: those of its fault, in the order of its fields.
use Rattle.std.specs.Prelude.{◌≡◌, ℕ, ℤ, pos, ◌<◌, ◌^◌, List, [], ◌∷◌, Option, Some}
use Rattle.avr_elf.specs.declared.fault.ElfFault.{ElfFault}
use Rattle.avr_elf.specs.declared.fault.ElfFault.TheVariants as elf
use Rattle.object_packer.specs.declared.fault.PackFault.{PackFault}
use Rattle.object_packer.specs.declared.fault.PackFault.TheVariants as packing

-- of a file that is no object
abbrev pub elf_values : ElfFault → List ℤ
elf_values (elf.Short at) = pos at ∷ []
elf_values (elf.NotElf at) = pos at ∷ []
elf_values (elf.NotAvr at) = pos at ∷ []
elf_values (elf.NotRelocatable at) = pos at ∷ []
elf_values (elf.SectionTable at) = pos at ∷ []
elf_values (elf.StringTable at) = pos at ∷ []
elf_values (elf.SymbolTable at) = pos at ∷ []
elf_values (elf.RelocationTable at) = pos at ∷ []
elf_values (elf.SymbolIndex at) = pos at ∷ []
elf_values (elf.Unsupported at kind) = pos at ∷ pos kind ∷ []

-- of an object that can't be packed; want of memory is no fault of an object
abbrev pub pack_values : PackFault → List ℤ
pack_values (packing.Section section) = pos section ∷ []
pack_values (packing.Common symbol) = pos symbol ∷ []
pack_values (packing.Kind section entry kind) = pos section ∷ pos entry ∷ pos kind ∷ []
pack_values (packing.Addend section entry) = pos section ∷ pos entry ∷ []
pack_values (packing.Field section entry) = pos section ∷ pos entry ∷ []
pack_values (packing.Size total) = pos total ∷ []
pack_values (packing.Absolute symbol) = pos symbol ∷ []
pack_values (packing.NameTwice symbol) = pos symbol ∷ []
pack_values packing.Memory = []

-- the bytes that a fault of size counts are as few as a refusal can say
abbrev pub IsFewBytes : Option PackFault → Type 0
IsFewBytes f = (n : ℕ) → f ≡ Some (packing.Size n) → n < 2 ^ 63
