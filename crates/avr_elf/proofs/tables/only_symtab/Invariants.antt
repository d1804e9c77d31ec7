use Rattle.std.proofs.Common.{◌≡◌, None}
use Rattle.avr_elf.specs.First.{first_of, first_index}
use Rattle.avr_elf.specs.Section.{is_symtab}
use Rattle.avr_elf.specs.Faults.{second_symtab_fault}
use Rattle.avr_elf.proofs.tables.only_symtab.Given as goal

abbrev pub invariant-loop-i : goal.invariant-loop-i
invariant-loop-i l = record {
  none : first_of (second_symtab_fault l.file) l.i ≡ None;
  found : l.found ≡ first_index (is_symtab l.file) l.i;
}
