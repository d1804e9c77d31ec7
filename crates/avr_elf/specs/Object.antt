-- What an object is, and the one that the bytes of a file mean.
use Rattle.std.specs.Prelude.{◌≡◌, ℕ, ◌+◌, ◌/◌, ◌<◌, ◌==◌, List, [], length, drop, slice_index, slice_range, slice_get, Option, Some, None, unwrap_or, if◌then◌else◌}
use Rattle.std.specs.List.{before_first}
use Rattle.avr_elf.specs.declared.header.SectionHeader.{SectionHeader}
use Rattle.avr_elf.specs.declared.relocation.Rela.{Rela}
use Rattle.avr_elf.specs.First.{list_of}
use Rattle.avr_elf.specs.Header.{section_count, names_index, header_of}
use Rattle.avr_elf.specs.Section.{is_allocated, has_bytes, symtab_of, table_of}
use Rattle.avr_elf.specs.Entry.{symbol_entry, rela_entry}
use Rattle.avr_elf.specs.Faults.{elf_fault, symbol_at, rela_at}

-- ---- an object

-- a section: its name, type, flags, size, alignment, and its bytes in the file
pub record SectionParts : Type 0 where
  pub name : List ℕ
  pub kind : ℕ
  pub flags : ℕ
  pub size : ℕ
  pub align : ℕ
  pub bytes : List ℕ

-- a symbol: its name, value, size, binding, type, and the index of its section
pub record SymbolParts : Type 0 where
  pub name : List ℕ
  pub value : ℕ
  pub size : ℕ
  pub binding : ℕ
  pub kind : ℕ
  pub section : ℕ

-- an object: its sections, its symbols, and for each section its relocations, which are none where it is not allocated
pub record Object : Type 0 where
  pub sections : List SectionParts
  pub symbols : List SymbolParts
  pub relas : List (List Rela)

-- the relocations of section k of an object
abbrev pub relas_at : Object → ℕ → List Rela
relas_at o k = unwrap_or (slice_get o.relas k) []

-- ---- what the bytes of a file mean, whatever may be wrong with them

-- the bytes of a section in the file, none where it has no bytes there
abbrev pub bytes_of : List ℕ → SectionHeader → List ℕ
bytes_of file h = if has_bytes h then slice_range file h.offset (h.offset + h.size) else []

-- the bytes of a string table from a place up to the next zero byte
abbrev pub name_in : List ℕ → ℕ → List ℕ
name_in strings at = before_first (λ b. b == 0) (drop at strings)

-- section i
abbrev pub section_of : List ℕ → ℕ → SectionParts
section_of file i =
    let h = header_of file i in
    record {
      name = name_in (bytes_of file (header_of file (names_index file))) h.name;
      kind = h.kind;
      flags = h.flags;
      size = h.size;
      align = h.align;
      bytes = bytes_of file h;
    }

-- symbol i of a symbol table
abbrev pub symbol_of : List ℕ → SectionHeader → ℕ → SymbolParts
symbol_of file table i =
    let s = symbol_entry file (symbol_at table i) in
    record {
      name = name_in (bytes_of file (header_of file table.link)) s.name;
      value = s.value;
      size = s.size;
      binding = s.binding;
      kind = s.kind;
      section = s.section;
    }

-- the symbols of a symbol table, none where there is no table
abbrev pub symbols_of : List ℕ → Option ℕ → List SymbolParts
symbols_of file None = []
symbols_of file (Some t) = list_of (symbol_of file (header_of file t)) ((header_of file t).size / 16)

-- the relocations of a table, none where there is no table
abbrev pub relas_in : List ℕ → Option ℕ → List Rela
relas_in file None = []
relas_in file (Some r) = list_of (λ i. rela_entry file (rela_at (header_of file r) i)) ((header_of file r).size / 12)

-- the relocations of section k
abbrev pub relas_of : List ℕ → ℕ → List Rela
relas_of file k = if is_allocated (header_of file k) then relas_in file (table_of file k) else []

-- the object that the bytes mean
abbrev pub object_of : List ℕ → Object
object_of file =
    record {
      sections = list_of (section_of file) (section_count file);
      symbols = symbols_of file (symtab_of file);
      relas = list_of (relas_of file) (section_count file);
    }

-- ---- files that are objects

-- numbers from 0 to 255
abbrev pub AreBytes : List ℕ → Type 0
AreBytes bytes = (i : ℕ) → slice_index bytes i < 256

-- the file has no fault, and each part of the object is what the file has there
pub record IsObject (file : List ℕ) (o : Object) : Type 0 where
  pub bytes : AreBytes file
  pub sound : elf_fault file ≡ None
  pub count : length o.sections ≡ section_count file
  pub sections : (i : ℕ) → i < section_count file → slice_get o.sections i ≡ Some (section_of file i)
  pub symbols : o.symbols ≡ symbols_of file (symtab_of file)
  pub tables : length o.relas ≡ section_count file
  pub relas : (k : ℕ) → k < section_count file → slice_get o.relas k ≡ Some (relas_of file k)
