use Rattle.std.proofs.Common.{◌≡◌, None}
use Rattle.avr_elf.specs.First.{first_of}
use Rattle.avr_elf.specs.Faults.{rela_fault}
use Rattle.avr_elf.proofs.tables.relas_fault.Given as goal

abbrev pub invariant-loop-i : goal.invariant-loop-i
invariant-loop-i l = first_of (rela_fault l.file l.table l.size l.symbols) l.i ≡ None
