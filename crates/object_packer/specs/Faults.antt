-- Why an object can't be packed: the first fault, of checks that come in this order.
use Rattle.std.specs.Prelude.{◌≡◌, ℕ, ℤ, pos, ◌+ℤ◌, ◌+◌, ◌*◌, ◌%◌, Bool, not, ◌&&◌, ◌||◌, ◌==◌, nat_lt, nat_le, int_le, negsuc, bytes_eq, List, [], ◌∷◌, length, Option, Some, None, is_some, if◌then◌else◌}
use Rattle.std.specs.List.{list_any}
use Rattle.std.specs.Option.{option_or}
use Rattle.avr_reloc.specs.declared.kind.RelocType.{RelocType}
use Rattle.avr_reloc.specs.Kind.{kind_of, shape_of, width_of, is_instruction}
use Rattle.avr_elf.specs.declared.constants.TheConstants.{ABS, COMMON}
use Rattle.avr_elf.specs.First.{first_of}
use Rattle.avr_elf.specs.Object.{SymbolParts, Object, relas_at}
use Rattle.component_package.specs.declared.part.Place.TheVariants as places
use Rattle.object_packer.specs.declared.fault.PackFault.{PackFault}
use Rattle.object_packer.specs.declared.fault.PackFault.TheVariants as faults
use Rattle.object_packer.specs.declared.layout.Home.{Home}
use Rattle.object_packer.specs.declared.kept.Kept.{Kept}
use Rattle.object_packer.specs.Sections.{section_at, symbol_at, rela_at}
use Rattle.object_packer.specs.Parts.{is_refused, part_length, home_of}
use Rattle.object_packer.specs.References.{is_local, linker_target, reference_of}
use Rattle.object_packer.specs.Relocations.{kept, kept_width, ordered}
use Rattle.object_packer.specs.Names.{is_exported, exported_before, exported, names_of_symbols}

-- ---- sections

-- section k is in memory and can't be packed
abbrev pub section_fault : Object → ℕ → Option PackFault
section_fault o k = if is_refused (section_at o k) then Some (faults.Section k) else None

-- ---- symbols

-- an earlier exported symbol has the name of symbol i
abbrev pub is_exported_before : Object → ℕ → Bool
is_exported_before o i = list_any (λ n. bytes_eq n (symbol_at o i).name) (names_of_symbols o (exported_before o i))

-- symbol i is exported under a name that is taken, by the linker or by an earlier symbol
abbrev pub is_named_twice : Object → ℕ → Bool
is_named_twice o i = is_exported o i && (is_some (linker_target (symbol_at o i).name) || is_exported_before o i)

-- symbol i is for the linker to make room for, or exported with a value that is too great
abbrev pub value_fault : ℕ → SymbolParts → Option PackFault
value_fault i s =
    if s.section == COMMON then Some (faults.Common i)
    else if not (is_local s) && s.section == ABS && nat_lt 65535 s.value then Some (faults.Absolute i)
    else None

abbrev pub name_fault : Object → ℕ → Option PackFault
name_fault o i = if is_named_twice o i then Some (faults.NameTwice i) else None

-- symbol i can't be packed
abbrev pub symbol_fault : Object → ℕ → Option PackFault
symbol_fault o i = option_or (value_fault i (symbol_at o i)) (name_fault o i)

-- ---- relocations

-- the field of a type at an offset lies in a section of a size, at an even offset where it is part of an instruction
abbrev pub has_field : ℕ → ℕ → RelocType → Bool
has_field size offset kind = nat_le (offset + width_of (shape_of kind)) size && (not (is_instruction (shape_of kind)) || offset % 2 == 0)

-- the number has room in two bytes
abbrev pub is_small : ℤ → Bool
is_small n = int_le (negsuc 32767) n && int_le n (pos 32767)

abbrev pub addend_fault : ℕ → ℕ → Bool → Option ℕ → Option PackFault
addend_fault k i small (Some j) = Some (faults.Section j)
addend_fault k i small None = if small then None else Some (faults.Addend k i)

abbrev pub kept_fault : Object → ℕ → ℕ → Option RelocType → Option PackFault
kept_fault o k i None = None
kept_fault o k i (Some kind) =
    let x = rela_at o k i in
    let r = reference_of o x.symbol in
    if not (has_field (section_at o k).size x.offset kind) then Some (faults.Field k i)
    else addend_fault k i (is_small (pos r.value +ℤ x.addend)) r.outside

-- entry i of the relocations of section k can't be packed
abbrev pub entry_fault : Object → ℕ → ℕ → Option PackFault
entry_fault o k i =
    let x = rela_at o k i in
    if nat_lt 32 x.kind then Some (faults.Kind k i x.kind) else kept_fault o k i (kind_of x.kind)

abbrev pub entries_fault : Object → ℕ → Option Home → Option PackFault
entries_fault o k None = None
entries_fault o k (Some home) = first_of (entry_fault o k) (length (relas_at o k))

-- a relocation of section k can't be packed, where the section is in memory
abbrev pub relas_fault : Object → ℕ → Option PackFault
relas_fault o k = entries_fault o k (home_of o k)

-- the first of the relocations, by part and offset, whose field begins before `low` or before the former one's end
abbrev pub overlap_fault : ℕ → List Kept → Option PackFault
overlap_fault low [] = None
overlap_fault low (x ∷ xs) = if nat_lt x.position low then Some (faults.Field x.section x.entry) else overlap_fault (x.position + kept_width x) xs

-- ---- size

-- how long the package would be
abbrev pub package_length : Object → ℕ
package_length o = 32 + part_length o places.Code + part_length o places.Init + 6 * length (exported o) + 8 * length (kept o)

abbrev pub size_fault : Object → Option PackFault
size_fault o =
    if nat_lt 65534 (part_length o places.Code) then Some (faults.Size (part_length o places.Code))
    else if nat_lt 65534 (part_length o places.Init) then Some (faults.Size (part_length o places.Init))
    else if nat_lt 65534 (part_length o places.Bss) then Some (faults.Size (part_length o places.Bss))
    else if nat_lt 9984 (package_length o) then Some (faults.Size (package_length o))
    else None

-- ---- all of them

abbrev pub sections_fault : Object → Option PackFault
sections_fault o = first_of (section_fault o) (length o.sections)

abbrev pub symbols_fault : Object → Option PackFault
symbols_fault o = first_of (symbol_fault o) (length o.symbols)

abbrev pub relocs_fault : Object → Option PackFault
relocs_fault o = option_or (first_of (relas_fault o) (length o.sections)) (overlap_fault 0 (ordered o))

-- the first fault
abbrev pub pack_fault : Object → Option PackFault
pack_fault o = option_or (sections_fault o) (option_or (symbols_fault o) (option_or (relocs_fault o) (size_fault o)))

-- a fault of the object, or want of memory, which says nothing of it
abbrev pub Says : PackFault → Option PackFault → Type 0
Says faults.Memory fault = Unit {0}
Says f fault = fault ≡ Some f

-- each fault's number
abbrev pub number_of : PackFault → ℕ
number_of (faults.Section section) = 1
number_of (faults.Common symbol) = 2
number_of (faults.Kind section entry kind) = 3
number_of (faults.Addend section entry) = 4
number_of (faults.Field section entry) = 5
number_of (faults.Size total) = 6
number_of (faults.Absolute symbol) = 7
number_of (faults.NameTwice symbol) = 8
number_of faults.Memory = 9
