use Rattle.std.proofs.Common.{◌≡◌, ℕ, ◌<◌, None, length, false, slice_index_or}
use Rattle.avr_elf.specs.First.{first_of}
use Rattle.avr_elf.specs.Faults.{rela_table_fault, is_patched_before}
use Rattle.avr_elf.proofs.tables.rela_tables_fault.Given as goal

abbrev pub invariant-loop-r : goal.invariant-loop-r
invariant-loop-r l = record {
  none : first_of (rela_table_fault l.file) l.r ≡ None;
  room : length l.patched ≡ 26214;
  marks : (k : ℕ) → k < 26214 → slice_index_or l.patched k false ≡ is_patched_before l.file l.r k;
}
