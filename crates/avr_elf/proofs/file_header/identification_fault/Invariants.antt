use Rattle.std.proofs.Common.{◌≡◌, None}
use Rattle.avr_elf.specs.First.{first_of}
use Rattle.avr_elf.specs.Faults.{identification_fault}
use Rattle.avr_elf.proofs.file_header.identification_fault.Given as goal

abbrev pub invariant-loop-i : goal.invariant-loop-i
invariant-loop-i l = first_of (identification_fault l.file) l.i ≡ None
