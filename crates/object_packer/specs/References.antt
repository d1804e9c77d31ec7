-- What a relocation that names a symbol refers to.
use Rattle.std.specs.Prelude.{ℕ, ◌+◌, Bool, false, not, ◌&&◌, ◌||◌, ◌==◌, nat_lt, bytes_eq, codes, List, length, Option, Some, None, if◌then◌else◌}
use Rattle.std.specs.Option.{option_and_then}
use Rattle.avr_elf.specs.declared.constants.TheConstants.{LOCAL, WEAK, UNDEF, ABS, COMMON}
use Rattle.avr_elf.specs.Object.{SymbolParts, Object}
use Rattle.component_package.specs.declared.part.Place.{Place}
use Rattle.component_package.specs.declared.part.Place.TheVariants as places
use Rattle.object_packer.specs.declared.layout.Home.{Home}
use Rattle.object_packer.specs.declared.reference.Target.TheVariants.{Fixed, Named}
use Rattle.object_packer.specs.declared.reference.Reference.{Reference}
use Rattle.object_packer.specs.Sections.{symbol_at}
use Rattle.object_packer.specs.Parts.{home_of}

-- ---- symbols

abbrev pub is_local : SymbolParts → Bool
is_local s = s.binding == LOCAL

abbrev pub is_weak : SymbolParts → Bool
is_weak s = s.binding == WEAK

-- the index of the section that a symbol is in, where it is in one
abbrev pub section_of : Object → SymbolParts → Option ℕ
section_of o s =
    if s.section == UNDEF || s.section == ABS || s.section == COMMON || not (nat_lt s.section (length o.sections)) then None else Some s.section

-- where the section that a symbol is in begins; none where it is in none, or in one that is not in memory
abbrev pub symbol_home : Object → SymbolParts → Option Home
symbol_home o s = option_and_then (home_of o) (section_of o s)

abbrev pub outside_at : Object → Option ℕ → Option Home → Option ℕ
outside_at o None home = None
outside_at o (Some k) None = Some k
outside_at o (Some k) (Some home) = None

-- the index of the section that a symbol is in, where that is not in memory
abbrev pub outside_of : Object → SymbolParts → Option ℕ
outside_of o s = outside_at o (section_of o s) (symbol_home o s)

-- ---- the linker's symbols

-- the target that the linker's symbol of a name is
abbrev pub linker_target : List ℕ → Option ℕ
linker_target name =
    if bytes_eq name (codes "__data_start") then Some 3
    else if bytes_eq name (codes "__data_end") then Some 4
    else if bytes_eq name (codes "__data_load_start") then Some 5
    else if bytes_eq name (codes "__bss_start") then Some 6
    else if bytes_eq name (codes "__bss_end") then Some 7
    else if bytes_eq name (codes "__heap_start") then Some 8
    else if bytes_eq name (codes "__stack") then Some 9
    else None

-- ---- references

-- the target that is a part of the component's own
abbrev pub own_target : Place → ℕ
own_target places.Code = 0
own_target places.Init = 1
own_target places.Bss = 2
own_target places.Absolute = 10

-- a reference to a target below 16, of which 10 is the number 0, and a number that is added to it
abbrev pub fixed : ℕ → ℕ → Option ℕ → Reference
fixed target value outside = record { target = Fixed target; value = value; weak = false; outside = outside }

-- to a local symbol: its place in the component, or a number
abbrev pub local_reference : ℕ → SymbolParts → Option Home → Option ℕ → Reference
local_reference i s (Some home) outside = fixed (own_target home.place) (home.start + s.value) outside
local_reference i s None outside = fixed 10 (if i == 0 || s.section == ABS then s.value else 0) outside

-- to a global symbol: the linker's, or one that goes by its name
abbrev pub global_reference : SymbolParts → Option ℕ → Option ℕ → Reference
global_reference s (Some target) outside = fixed target 0 outside
global_reference s None outside = record { target = Named; value = 0; weak = is_weak s && s.section == UNDEF; outside = outside }

-- what a relocation that names symbol i refers to
abbrev pub reference_of : Object → ℕ → Reference
reference_of o i =
    let s = symbol_at o i in
    if is_local s then local_reference i s (symbol_home o s) (outside_of o s)
    else if i == 0 then fixed 10 s.value (outside_of o s)
    else global_reference s (linker_target s.name) (outside_of o s)
