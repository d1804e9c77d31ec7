use Rattle.std.proofs.Common.{◌≡◌, None}
use Rattle.avr_elf.specs.First.{first_of}
use Rattle.avr_elf.specs.Faults.{symbol_fault}
use Rattle.avr_elf.proofs.tables.each_symbol_fault.Given as goal

abbrev pub invariant-loop-i : goal.invariant-loop-i
invariant-loop-i l = first_of (symbol_fault l.file l.table) l.i ≡ None
