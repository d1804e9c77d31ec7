-- The image of a set of objects by the names of their symbols: no number of a symbol stands in it, and no package.
use Rattle.std.specs.Prelude.{◌≡◌, ℕ, pos, ◌+ℤ◌, ◌+◌, ◌≤◌, Bool, true, not, ◌||◌, ◌&&◌, ◌==◌, bytes_eq, List, [], ◌++◌, length, map, Option, Some, None, is_some, unwrap_or, if◌then◌else◌}
use Rattle.std.specs.List.{filter, find, flat_map, enumerate_from, range_with_len, AllByRecursion}
use Rattle.std.specs.Option.{option_or, option_map, option_to_list}
use Rattle.avr_reloc.specs.declared.kind.RelocType.{RelocType}
use Rattle.avr_reloc.specs.declared.fixup.Fixup.{Fixup}
use Rattle.avr_reloc.specs.Kind.{kind_of}
use Rattle.avr_reloc.specs.Field.{AreBytes}
use Rattle.avr_reloc.specs.Fixups.{ArePut}
use Rattle.avr_elf.specs.declared.constants.TheConstants.{UNDEF, ABS}
use Rattle.avr_elf.specs.declared.relocation.Rela.{Rela}
use Rattle.avr_elf.specs.Object.{SymbolParts, Object, relas_at}
use Rattle.component_package.specs.declared.part.Place.{Place}
use Rattle.component_package.specs.declared.part.Place.TheVariants as places
use Rattle.component_package.specs.declared.limits.TheConstants.{SET_SYMBOLS, SET_RELOCATIONS}
use Rattle.component_package.specs.link.Layout.{Room, code_base, load_base, ram_base, bss_base, linker_symbol}
use Rattle.component_package.specs.link.Link.{room_cause}
use Rattle.object_packer.specs.Sections.{symbol_at, rela_at}
use Rattle.object_packer.specs.Parts.{part_length, part_bytes, home_of}
use Rattle.object_packer.specs.References.{is_local, is_weak, symbol_home, linker_target}
use Rattle.object_packer.specs.Names.{exported, each_once}

-- ---- where parts stand

abbrev pub rooms_of_objects : List Object → List Room
rooms_of_objects os = map (λ o. record { code = part_length o places.Code; init = part_length o places.Init; bss = part_length o places.Bss }) os

-- where a part of object k stands when the program runs
abbrev pub base_in : List Room → ℕ → Place → ℕ
base_in rooms k places.Code = code_base rooms k
base_in rooms k places.Init = ram_base rooms k
base_in rooms k places.Bss = bss_base rooms k
base_in rooms k places.Absolute = 0

-- all code in order, then all data in order, with a zero byte behind each section of an odd length, as the objects have them
abbrev pub plain_of_objects : List Object → List ℕ
plain_of_objects os = flat_map (λ o. part_bytes o places.Code) os ++ flat_map (λ o. part_bytes o places.Init) os

-- the part that something in a section belongs to, and where in it the section begins
pub record Start : Type 0 where
  pub part : Place
  pub offset : ℕ

-- that of section k of an object; none where it is not in memory
abbrev pub start_of : Object → ℕ → Option Start
start_of o k = option_map (λ home. record { part = home.place; offset = home.start }) (home_of o k)

-- that of the section of a symbol; none where it is in none, or in one that is not in memory
abbrev pub symbol_start : Object → SymbolParts → Option Start
symbol_start o s = option_map (λ home. record { part = home.place; offset = home.start }) (symbol_home o s)

-- ---- definitions

-- a symbol that an object of the set defines for others
pub record Definition : Type 0 where
  pub object : ℕ
  pub symbol : SymbolParts
  pub start : Option Start

abbrev pub definition_in : ℕ → Object → ℕ → Definition
definition_in k o i = record { object = k; symbol = symbol_at o i; start = symbol_start o (symbol_at o i) }

-- those of all objects, by object and symbol
abbrev pub definitions : List Object → List Definition
definitions os = flat_map (λ o. map (definition_in o.0 o.1) (exported o.1)) (enumerate_from 0 os)

-- the address that a definition gives: its place in its section, wherever that stands, or the number itself
abbrev pub address_at : List Room → ℕ → ℕ → Option Start → ℕ
address_at rooms k value (Some start) = base_in rooms k start.part + start.offset + value
address_at rooms k value None = value

abbrev pub address_of_definition : List Room → Definition → ℕ
address_of_definition rooms d = address_at rooms d.object d.symbol.value d.start

abbrev pub defines : List ℕ → Definition → Bool
defines name d = bytes_eq d.symbol.name name

abbrev pub defines_strongly : List ℕ → Definition → Bool
defines_strongly name d = defines name d && not (is_weak d.symbol)

-- the address of a name: of its strong definition, else of its first weak one
abbrev pub address_of_name : List Object → List ℕ → Option ℕ
address_of_name os name =
    option_map (address_of_definition (rooms_of_objects os))
    (option_or (find (defines_strongly name) (definitions os)) (find (defines name) (definitions os)))

-- ---- what a relocation's symbol says

-- a local symbol: its place, wherever its section stands, or a number; 0 where it is undefined
abbrev pub local_value : List Room → ℕ → ℕ → SymbolParts → Option Start → ℕ
local_value rooms k i s (Some start) = base_in rooms k start.part + start.offset + s.value
local_value rooms k i s None = if i == 0 || s.section == ABS then s.value else 0

-- a global one: the linker's, else what its name says; a weak reference to no definition says 0
abbrev pub global_value : List Object → SymbolParts → Option ℕ → Option ℕ
global_value os s (Some target) = linker_symbol (rooms_of_objects os) target
global_value os s None = option_or (address_of_name os s.name) (if is_weak s && s.section == UNDEF then Some 0 else None)

-- the value of symbol i of object k
abbrev pub value_of_symbol : List Object → ℕ → Object → ℕ → Option ℕ
value_of_symbol os k o i =
    let s = symbol_at o i in
    if is_local s then Some (local_value (rooms_of_objects os) k i s (symbol_start o s))
    else if i == 0 then Some s.value
    else global_value os s (linker_target s.name)

-- ---- relocations

-- an entry of an object's relocations that changes a field, and where the section that it patches is
pub record Entry : Type 0 where
  pub object : ℕ
  pub start : Start
  pub rela : Rela
  pub kind : RelocType
  pub value : Option ℕ

abbrev pub entry_of : List Object → ℕ → Object → Start → Rela → RelocType → Entry
entry_of os k o start x kind = record { object = k; start = start; rela = x; kind = kind; value = value_of_symbol os k o x.symbol }

-- entry i of a section, unless its type changes nothing
abbrev pub entries_at : List Object → ℕ → Object → ℕ → Start → ℕ → List Entry
entries_at os k o section start i =
    let x = rela_at o section i in
    option_to_list (option_map (entry_of os k o start x) (kind_of x.kind))

-- those of a section, where it is in memory
abbrev pub entries_with : List Object → ℕ → Object → ℕ → Option Start → List Entry
entries_with os k o section None = []
entries_with os k o section (Some start) = flat_map (entries_at os k o section start) (range_with_len 0 (length (relas_at o section)))

abbrev pub entries_in : List Object → ℕ → Object → List Entry
entries_in os k o = flat_map (λ section. entries_with os k o section (start_of o section)) (range_with_len 0 (length o.sections))

-- those of all objects
abbrev pub entries : List Object → List Entry
entries os = flat_map (λ o. entries_in os o.0 o.1) (enumerate_from 0 os)

-- where the image has a part of object k: data stands behind all code until it is copied
abbrev pub image_base : List Room → ℕ → Place → ℕ
image_base rooms k places.Init = load_base rooms k
image_base rooms k place = code_base rooms k

-- the field of an entry with what it is to say
abbrev pub named_fixup : List Room → Entry → Fixup
named_fixup rooms e =
    record {
      place = image_base rooms e.object e.start.part + (e.start.offset + e.rela.offset);
      kind = e.kind;
      s_plus_a = pos (unwrap_or e.value 0) +ℤ e.rela.addend;
    }

-- ---- the image

-- nothing refuses the objects: they have room, no name has two strong definitions, and each reference says something
pub record AreLinkable (os : List Object) : Type 0 where
  pub room : room_cause (rooms_of_objects os) ≡ None
  pub names : length (each_once (map (λ d. d.symbol.name) (definitions os))) ≤ SET_SYMBOLS
  pub relocations : length (entries os) ≤ SET_RELOCATIONS
  pub one : (name : List ℕ) → length (filter (defines_strongly name) (definitions os)) ≤ 1
  pub defined : AllByRecursion (λ e. is_some e.value ≡ true) (entries os)

-- b is the image of the objects: each byte in no field is theirs, and each field holds what its symbol's name says
pub record IsNameImage (os : List Object) (b : List ℕ) : Type 0 where
  pub linkable : AreLinkable os
  pub bytes : AreBytes b
  pub put : ArePut (map (named_fixup (rooms_of_objects os)) (entries os)) (plain_of_objects os) b
