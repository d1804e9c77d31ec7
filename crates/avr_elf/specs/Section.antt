-- What the reader asks of a section.
use Rattle.std.specs.Prelude.{◌≡◌, ℕ, ◌+◌, ◌-◌, ◌<◌, ◌≤◌, Bool, true, not, ◌&&◌, ◌||◌, ◌==◌, nat_lt, nat_le, bit_and, List, length, slice_index, Option}
use Rattle.avr_elf.specs.declared.constants.TheConstants.{NULL, PROGBITS, SYMTAB, STRTAB, RELA, NOBITS, REL, GROUP, SYMTAB_SHNDX, ALLOC}
use Rattle.avr_elf.specs.declared.header.SectionHeader.{SectionHeader}
use Rattle.avr_elf.specs.First.{first_index}
use Rattle.avr_elf.specs.Header.{section_count, header_of}

-- the section is in memory when the program runs
abbrev pub is_allocated : SectionHeader → Bool
is_allocated h = not (bit_and h.flags ALLOC == 0)

-- the section has bytes in the file
abbrev pub has_bytes : SectionHeader → Bool
has_bytes h = not (h.kind == NULL) && not (h.kind == NOBITS)

-- the section's bytes end within the file
abbrev pub is_within : List ℕ → SectionHeader → Bool
is_within file h = nat_le (h.offset + h.size) (length file)

-- the section is of a type that the reader knows, and where it is allocated, bytes or room of the program
abbrev pub is_supported : SectionHeader → Bool
is_supported h = not (h.kind == REL) && not (h.kind == GROUP) && not (h.kind == SYMTAB_SHNDX) && (not (is_allocated h) || h.kind == PROGBITS || h.kind == NOBITS)

-- a string table has at least one byte, and a zero byte ends it
abbrev pub is_string_table : List ℕ → SectionHeader → Bool
is_string_table file h = h.kind == STRTAB && nat_lt 0 h.size && slice_index file (h.offset + h.size - 1) == 0

-- section i is a symbol table
abbrev pub is_symtab : List ℕ → ℕ → Bool
is_symtab file i = (header_of file i).kind == SYMTAB

-- the file's symbol table: the first section that is one
abbrev pub symtab_of : List ℕ → Option ℕ
symtab_of file = first_index (is_symtab file) (section_count file)

-- section i holds relocations of section k
abbrev pub patches : List ℕ → ℕ → ℕ → Bool
patches file k i = (header_of file i).kind == RELA && (header_of file i).info == k

-- the section that holds the relocations of section k
abbrev pub table_of : List ℕ → ℕ → Option ℕ
table_of file k = first_index (patches file k) (section_count file)

-- the bytes of a section that has some are within the file
abbrev pub IsPlaced : List ℕ → SectionHeader → Type 0
IsPlaced file h = has_bytes h ≡ true → h.offset + h.size ≤ length file

-- each section's are
abbrev pub ArePlaced : List ℕ → Type 0
ArePlaced file = (i : ℕ) → i < section_count file → IsPlaced file (header_of file i)
