-- Where the section table is, and what a section header says.
use Rattle.std.specs.Prelude.{ℕ, ◌+◌, ◌*◌, ◌<◌, ◌≤◌, List, length}
use Rattle.avr_elf.specs.declared.header.SectionHeader.{SectionHeader}
use Rattle.avr_elf.specs.Number.{u16_at, u32_at}

-- how many sections the file header says that there are
abbrev pub section_count : List ℕ → ℕ
section_count file = u16_at file 48

-- the section whose bytes are the names of the sections
abbrev pub names_index : List ℕ → ℕ
names_index file = u16_at file 50

-- where the header of section i is
abbrev pub header_at : List ℕ → ℕ → ℕ
header_at file i = u32_at file 32 + 40 * i

-- the header of section i
unfoldable pub header_of : List ℕ → ℕ → SectionHeader
header_of file i =
    let at = header_at file i in
    record {
      name = u32_at file at;
      kind = u32_at file (at + 4);
      flags = u32_at file (at + 8);
      offset = u32_at file (at + 16);
      size = u32_at file (at + 20);
      link = u32_at file (at + 24);
      info = u32_at file (at + 28);
      align = u32_at file (at + 32);
      entry_size = u32_at file (at + 36);
    }

-- the file is no longer than objects are, and has a file header and the whole section table
pub record HasTable (file : List ℕ) : Type 0 where
  pub small : length file ≤ 1048576
  pub long : 52 ≤ length file
  pub whole : header_at file (section_count file) ≤ length file

-- the section of section names is there
abbrev pub HasNames : List ℕ → Type 0
HasNames file = names_index file < section_count file
