use Rattle.std.proofs.Common.{false}
use Rattle.avr_elf.proofs.Lists.{get_or-replicate_same}
use Rattle.avr_elf.proofs.marks.no_marks.Goals as goal

pub returns-clause-none : goal.returns-clause-none
returns-clause-none c = λ k. get_or-replicate_same 26214 k false
