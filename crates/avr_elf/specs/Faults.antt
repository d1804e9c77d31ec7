-- What is wrong with an object: the first fault, of checks that come in this order.
use Rattle.std.specs.Prelude.{ℕ, ◌+◌, ◌*◌, ◌/◌, ◌%◌, Bool, false, not, ◌&&◌, ◌||◌, ◌==◌, nat_lt, nat_le, List, [], ◌∷◌, length, slice_index, Option, Some, None, is_some, if◌then◌else◌}
use Rattle.std.specs.Option.{option_or}
use Rattle.avr_elf.specs.declared.constants.TheConstants.{PROGBITS, RELA, AVR, AVR5, AVR51, RELOCATABLE, WEAK, UNDEF, ABS, COMMON}
use Rattle.avr_elf.specs.declared.header.SectionHeader.{SectionHeader}
use Rattle.avr_elf.specs.declared.symbol.SymbolEntry.{SymbolEntry}
use Rattle.avr_elf.specs.declared.fault.ElfFault.{ElfFault}
use Rattle.avr_elf.specs.declared.fault.ElfFault.TheVariants.{Short, NotElf, NotAvr, NotRelocatable, SectionTable, StringTable, SymbolTable, RelocationTable, SymbolIndex, Unsupported}
use Rattle.avr_elf.specs.Number.{u16_at, u32_at}
use Rattle.avr_elf.specs.First.{first_of, first_index}
use Rattle.avr_elf.specs.Header.{section_count, names_index, header_at, header_of}
use Rattle.avr_elf.specs.Section.{is_allocated, has_bytes, is_within, is_supported, is_string_table, is_symtab, symtab_of, patches}
use Rattle.avr_elf.specs.Entry.{symbol_entry, rela_entry}

-- a fault where a test fails
abbrev pub unless : Bool → ElfFault → Option ElfFault
unless holds fault = if holds then None else Some fault

-- ---- the file header

-- the bytes that begin each 32-bit little-endian file of version 1
abbrev pub identification : List ℕ
identification = 0x7F ∷ 0x45 ∷ 0x4C ∷ 0x46 ∷ 1 ∷ 1 ∷ 1 ∷ []

-- byte i of the identification differs
abbrev pub identification_fault : List ℕ → ℕ → Option ElfFault
identification_fault file i = unless (slice_index file i == slice_index identification i) (NotElf i)

-- the machine is the AVR
abbrev pub is_avr : List ℕ → Bool
is_avr file = u16_at file 18 == AVR

-- the low seven bits of the flags name avr5 or avr51
abbrev pub has_architecture : List ℕ → Bool
has_architecture file = let architecture = u32_at file 36 % 128 in architecture == AVR5 || architecture == AVR51

-- the file is relocatable
abbrev pub is_relocatable : List ℕ → Bool
is_relocatable file = u16_at file 16 == RELOCATABLE

-- section headers have forty bytes
abbrev pub has_header_size : List ℕ → Bool
has_header_size file = u16_at file 46 == 40

-- there is a section
abbrev pub has_sections : List ℕ → Bool
has_sections file = nat_lt 0 (section_count file)

-- all section headers are within the file
abbrev pub has_section_table : List ℕ → Bool
has_section_table file = nat_le (header_at file (section_count file)) (length file)

-- the section of section names is there
abbrev pub has_names_index : List ℕ → Bool
has_names_index file = nat_lt (names_index file) (section_count file)

-- what the fields of the file header have wrong
abbrev pub fields_fault : List ℕ → Option ElfFault
fields_fault file =
    if not (is_avr file) then Some (NotAvr 18)
    else if not (has_architecture file) then Some (NotAvr 36)
    else if not (is_relocatable file) then Some (NotRelocatable 16)
    else if not (has_header_size file) then Some (SectionTable 46)
    else if not (has_sections file) then Some (SectionTable 48)
    else if not (has_section_table file) then Some (SectionTable 32)
    else if not (has_names_index file) then Some (SectionTable 50)
    else None

-- what is wrong with the file header
abbrev pub file_header_fault : List ℕ → Option ElfFault
file_header_fault file = if nat_lt (length file) 52 then Some (Short (length file)) else option_or (first_of (identification_fault file) 7) (fields_fault file)

-- ---- each section

-- the bytes of section i are not within the file
abbrev pub place_fault : List ℕ → ℕ → Option ElfFault
place_fault file i = let h = header_of file i in unless (not (has_bytes h) || is_within file h) (SectionTable (header_at file i))

-- section i is of a kind that is not read
abbrev pub kind_fault : List ℕ → ℕ → Option ElfFault
kind_fault file i = let h = header_of file i in unless (is_supported h) (Unsupported (header_at file i) h.kind)

-- ---- names

-- section i has no name in the string table of section names
abbrev pub name_fault : List ℕ → ℕ → Option ElfFault
name_fault file i = unless (nat_lt (header_of file i).name (header_of file (names_index file)).size) (StringTable (header_at file i))

-- what is wrong with section names
abbrev pub names_fault : List ℕ → Option ElfFault
names_fault file =
    if not (is_string_table file (header_of file (names_index file))) then Some (StringTable (header_at file (names_index file)))
    else first_of (name_fault file) (section_count file)

-- ---- the symbol table

-- section i is a symbol table, and not the first
abbrev pub second_symtab_fault : List ℕ → ℕ → Option ElfFault
second_symtab_fault file i = if is_symtab file i && is_some (first_index (is_symtab file) i) then Some (SymbolTable (header_at file i)) else None

-- the section that a symbol table is linked to is a string table
abbrev pub has_strings : List ℕ → SectionHeader → Bool
has_strings file table = nat_lt table.link (section_count file) && is_string_table file (header_of file table.link)

-- a symbol table has one symbol or more, of sixteen bytes each
abbrev pub has_symbols : SectionHeader → Bool
has_symbols table = table.entry_size == 16 && table.size % 16 == 0 && not (table.size == 0)

-- a symbol is in a section of the file, or has one of the special indexes
abbrev pub has_section : List ℕ → SymbolEntry → Bool
has_section file s = nat_lt s.section (section_count file) || s.section == ABS || s.section == COMMON

-- the section of an index is there and allocated; the index of undefined symbols is no section's
abbrev pub is_in_memory : List ℕ → ℕ → Bool
is_in_memory file index = not (index == UNDEF) && nat_lt index (section_count file) && is_allocated (header_of file index)

-- a symbol in an allocated section is within it, or at its end
abbrev pub has_value : List ℕ → SymbolEntry → Bool
has_value file s = not (is_in_memory file s.section) || nat_le s.value (header_of file s.section).size

-- a symbol can be read: its name is within a string table of a size, it is local, global or weak, and in its section
abbrev pub is_symbol : List ℕ → ℕ → SymbolEntry → Bool
is_symbol file strings s = nat_lt s.name strings && nat_le s.binding WEAK && has_section file s && has_value file s

-- where symbol i of a table is
abbrev pub symbol_at : SectionHeader → ℕ → ℕ
symbol_at table i = table.offset + 16 * i

-- symbol i can't be read
abbrev pub symbol_fault : List ℕ → SectionHeader → ℕ → Option ElfFault
symbol_fault file table i =
    unless (is_symbol file (header_of file table.link).size (symbol_entry file (symbol_at table i))) (SymbolTable (symbol_at table i))

-- how many symbols a table has
abbrev pub entries_of : List ℕ → Option ℕ → ℕ
entries_of file None = 0
entries_of file (Some t) = (header_of file t).size / 16

-- how many symbols the file has
abbrev pub symbol_count : List ℕ → ℕ
symbol_count file = entries_of file (symtab_of file)

-- what is wrong with the symbol table t
abbrev pub symtab_fault : List ℕ → ℕ → Option ElfFault
symtab_fault file t =
    let table = header_of file t in
    if not (has_strings file table) then Some (StringTable (header_at file t))
    else if not (has_symbols table) then Some (SymbolTable (header_at file t))
    else first_of (symbol_fault file table) (table.size / 16)

-- what is wrong with the symbol table, where there is one
abbrev pub symbols_fault : List ℕ → Option ℕ → Option ElfFault
symbols_fault file None = None
symbols_fault file (Some t) = symtab_fault file t

-- ---- tables of relocations

-- where relocation i of a table is
abbrev pub rela_at : SectionHeader → ℕ → ℕ
rela_at table i = table.offset + 12 * i

-- relocation i of a table is not within a patched section of a size, or names none of so many symbols
abbrev pub rela_fault : List ℕ → SectionHeader → ℕ → ℕ → ℕ → Option ElfFault
rela_fault file table size symbols i =
    let x = rela_entry file (rela_at table i) in
    if not (nat_lt x.offset size) then Some (RelocationTable (rela_at table i))
    else if not (nat_lt x.symbol symbols) then Some (SymbolIndex (rela_at table i))
    else None

-- an index is the symbol table's
abbrev pub is_symtab_index : Option ℕ → ℕ → Bool
is_symtab_index None index = false
is_symtab_index (Some t) index = index == t

-- an earlier table patches section k too
abbrev pub is_patched_before : List ℕ → ℕ → ℕ → Bool
is_patched_before file r k = is_some (first_index (patches file k) r)

-- a table of relocations has twelve bytes for each, leans on the symbol table, and is the first to patch its section, which has bytes
abbrev pub is_rela_table : List ℕ → ℕ → SectionHeader → Bool
is_rela_table file r table =
    is_symtab_index (symtab_of file) table.link && table.entry_size == 12 && table.size % 12 == 0
    && (header_of file table.info).kind == PROGBITS && not (is_patched_before file r table.info)

-- what is wrong with section r where it patches an allocated section
abbrev pub patching_fault : List ℕ → ℕ → Option ElfFault
patching_fault file r =
    let table = header_of file r in
    if not (is_rela_table file r table) then Some (RelocationTable (header_at file r))
    else first_of (rela_fault file table (header_of file table.info).size (symbol_count file)) (table.size / 12)

-- what is wrong with section r as a table of relocations; of one for a section that is not allocated nothing else is read
abbrev pub rela_table_fault : List ℕ → ℕ → Option ElfFault
rela_table_fault file r =
    let table = header_of file r in
    if not (table.kind == RELA) then None
    else if not (nat_lt table.info (section_count file)) then Some (RelocationTable (header_at file r))
    else if not (is_allocated (header_of file table.info)) then None
    else patching_fault file r

-- ---- all of them

-- what is wrong with the symbols and relocations
abbrev pub tables_fault : List ℕ → Option ElfFault
tables_fault file =
    option_or (first_of (second_symtab_fault file) (section_count file))
    (option_or (symbols_fault file (symtab_of file)) (first_of (rela_table_fault file) (section_count file)))

-- what is wrong with the sections
abbrev pub sections_fault : List ℕ → Option ElfFault
sections_fault file =
    option_or (first_of (place_fault file) (section_count file))
    (option_or (first_of (kind_fault file) (section_count file)) (names_fault file))

-- the first fault of an object
abbrev pub elf_fault : List ℕ → Option ElfFault
elf_fault file = option_or (file_header_fault file) (option_or (sections_fault file) (tables_fault file))
