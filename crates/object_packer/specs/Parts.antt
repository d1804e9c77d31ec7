-- The parts of the package: which sections belong to each, and where in it they begin.
use Rattle.std.specs.Prelude.{ℕ, ◌+◌, ◌%◌, Bool, true, false, not, ◌&&◌, ◌||◌, ◌==◌, nat_lt, nat_eq, bit_and, codes, List, [], ◌++◌, length, take, replicate, Option, Some, None, if◌then◌else◌}
use Rattle.std.specs.List.{filter, flat_map, sum_by, starts_with}
use Rattle.avr_elf.specs.declared.constants.TheConstants.{NOBITS, EXECINSTR}
use Rattle.avr_elf.specs.Object.{SectionParts, Object}
use Rattle.avr_elf.specs.WellFormed.{is_loaded}
use Rattle.component_package.specs.declared.part.Place.{Place}
use Rattle.component_package.specs.declared.part.Place.TheVariants as places
use Rattle.object_packer.specs.declared.layout.Home.{Home}
use Rattle.object_packer.specs.Sections.{section_at}

-- ---- which part

abbrev pub begins_with : List ℕ → List ℕ → Bool
begins_with name prefix = starts_with nat_eq name prefix

-- sections that the device or the startup code of a whole program has a use for, and a component has none
abbrev pub is_left_out : List ℕ → Bool
is_left_out name =
    begins_with name (codes ".eeprom") || begins_with name (codes ".noinit") || begins_with name (codes ".init") || begins_with name (codes ".fini")
    || begins_with name (codes ".ctors") || begins_with name (codes ".dtors") || begins_with name (codes ".preinit") || begins_with name (codes ".fuse")
    || begins_with name (codes ".lock") || begins_with name (codes ".signature") || begins_with name (codes ".user_signatures")

-- sections in memory that can't be packed: those left out, and those that want more than even places
abbrev pub is_refused : SectionParts → Bool
is_refused s = is_loaded s && (is_left_out s.name || nat_lt 2 s.align)

-- the section is read from program flash: instructions, and data that is put there
abbrev pub is_in_flash : SectionParts → Bool
is_in_flash s = not (bit_and s.flags EXECINSTR == 0) || begins_with s.name (codes ".progmem") || begins_with s.name (codes ".jumptables")

-- the part that a section belongs to; none where it is not in memory
abbrev pub place_of : SectionParts → Option Place
place_of s =
    if not (is_loaded s) then None
    else if s.kind == NOBITS then Some places.Bss
    else if is_in_flash s then Some places.Code
    else Some places.Init

abbrev pub is_place : Place → Option Place → Bool
is_place places.Code (Some places.Code) = true
is_place places.Init (Some places.Init) = true
is_place places.Bss (Some places.Bss) = true
is_place p q = false

-- the section belongs to a part
abbrev pub is_in : Place → SectionParts → Bool
is_in p s = is_place p (place_of s)

-- ---- where in it

-- the least even number from n on
abbrev pub even_up : ℕ → ℕ
even_up n = n + n % 2

-- how many bytes the sections take, each up to an even number
abbrev pub room_of : List SectionParts → ℕ
room_of ss = sum_by (λ s. even_up s.size) ss

-- how long a part is
abbrev pub part_length : Object → Place → ℕ
part_length o p = room_of (filter (is_in p) o.sections)

-- how much of a part the sections before section k take
abbrev pub length_before : Object → Place → ℕ → ℕ
length_before o p k = room_of (filter (is_in p) (take k o.sections))

abbrev pub home_in : Object → ℕ → Option Place → Option Home
home_in o k None = None
home_in o k (Some p) = Some (record { place = p; start = length_before o p k })

-- the part that section k belongs to and where in it the section begins; none where it is not in memory
abbrev pub home_of : Object → ℕ → Option Home
home_of o k = home_in o k (place_of (section_at o k))

-- ---- what bytes

-- bytes with a zero byte behind them where they are odd
abbrev pub filled : List ℕ → List ℕ
filled bytes = bytes ++ replicate (length bytes % 2) 0

-- what a section gives to the bytes of a part
abbrev pub bytes_in : Place → SectionParts → List ℕ
bytes_in p s = if is_in p s then filled s.bytes else []

-- the bytes of a part: its sections by rising index, each filled to an even length
abbrev pub part_bytes : Object → Place → List ℕ
part_bytes o p = flat_map (bytes_in p) o.sections
