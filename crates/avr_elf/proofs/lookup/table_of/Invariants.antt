use Rattle.std.proofs.Common.{◌≡◌, None}
use Rattle.avr_elf.specs.First.{first_index}
use Rattle.avr_elf.specs.Section.{patches}
use Rattle.avr_elf.proofs.lookup.table_of.Given as goal

abbrev pub invariant-loop-i : goal.invariant-loop-i
invariant-loop-i l = first_index (patches l.file l.k) l.i ≡ None
