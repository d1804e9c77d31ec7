-- The entries of a table of relocations.
use Rattle.std.specs.Prelude.{ℕ, ◌+◌, ◌*◌, ◌≤◌, List, length}
use Rattle.avr_elf.specs.declared.relocation.Rela.{Rela}
use Rattle.avr_elf.specs.First.{list_of}
use Rattle.avr_elf.specs.Entry.{rela_entry}

-- the relocations of so many entries from an offset on
abbrev pub entries : List ℕ → ℕ → ℕ → List Rela
entries file offset count = list_of (λ i. rela_entry file (offset + 12 * i)) count

-- the entries are within a file that is no longer than objects are
pub record HasEntries (file : List ℕ) (offset count : ℕ) : Type 0 where
  pub small : length file ≤ 1048576
  pub within : offset + 12 * count ≤ length file
