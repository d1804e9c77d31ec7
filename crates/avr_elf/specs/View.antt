-- What a view gives, as parts of the object, and what it rests on.
use Rattle.std.specs.Prelude.{◌≡◌, ℕ, ◌/◌, ◌<◌, ◌≤◌, List, length, Option, Some}
use Rattle.avr_elf.specs.declared.part.Section.{Section}
use Rattle.avr_elf.specs.declared.part.Symbol.{Symbol}
use Rattle.avr_elf.specs.Header.{section_count, names_index, header_of, HasTable, HasNames}
use Rattle.avr_elf.specs.Section.{symtab_of, ArePlaced}
use Rattle.avr_elf.specs.Entry.{symbol_entry}
use Rattle.avr_elf.specs.Faults.{symbol_at}
use Rattle.avr_elf.specs.WellFormed.{IsWellFormed}
use Rattle.avr_elf.specs.Object.{SectionParts, SymbolParts, bytes_of, object_of}

-- ---- what is given

-- a section that a view gives, its name and bytes as lists
abbrev pub section_parts : Section → SectionParts
section_parts s = record { name = s.name.now; kind = s.kind; flags = s.flags; size = s.size; align = s.align; bytes = s.bytes.now }

-- a symbol that a view gives, its name as a list
abbrev pub symbol_parts : Symbol → SymbolParts
symbol_parts s = record { name = s.name.now; value = s.value; size = s.size; binding = s.binding; kind = s.kind; section = s.section }

-- ---- what a view rests on

-- each section's name begins within the string table of section names
abbrev pub AreNamed : List ℕ → Type 0
AreNamed file = (i : ℕ) → i < section_count file → (header_of file i).name ≤ length (bytes_of file (header_of file (names_index file)))

-- the symbol table t is linked to a section, and each symbol's name begins within it
pub record AreSymbols (file : List ℕ) (t : ℕ) : Type 0 where
  pub link : (header_of file t).link < section_count file
  pub named : (i : ℕ) → i < (header_of file t).size / 16
      → (symbol_entry file (symbol_at (header_of file t) i)).name ≤ length (bytes_of file (header_of file (header_of file t).link))

-- all that is read of a file lies within it
pub record IsSound (file : List ℕ) : Type 0 where
  pub table : HasTable file
  pub names : HasNames file
  pub placed : ArePlaced file
  pub named : AreNamed file
  pub symbols : (t : ℕ) → symtab_of file ≡ Some t → AreSymbols file t

-- a file that was read, and its symbol table
pub record IsRead (file : List ℕ) (symtab : Option ℕ) : Type 0 where
  pub sound : IsSound file
  pub well_formed : IsWellFormed (object_of file)
  pub only : symtab ≡ symtab_of file
