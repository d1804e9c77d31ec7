use Rattle.std.proofs.Common.{◌≡◌, None}
use Rattle.avr_elf.specs.First.{first_of}
use Rattle.avr_elf.specs.Faults.{name_fault}
use Rattle.avr_elf.proofs.sections.each_name_fault.Given as goal

abbrev pub invariant-loop-i : goal.invariant-loop-i
invariant-loop-i l = first_of (name_fault l.file) l.i ≡ None
