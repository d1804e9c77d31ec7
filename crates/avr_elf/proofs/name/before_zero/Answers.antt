use Rattle.std.proofs.Common.{sym}
use Rattle.avr_elf.proofs.Lists.{before_first-some, before_first-none}
use Rattle.avr_elf.proofs.name.before_zero.Goals as goal

pub returns-in-Some : goal.returns-in-Some
returns-in-Some c = before_first-some _ c.args.bytes.now c.in-Some.end (sym c.in-Some.ensures)

pub returns-in-None : goal.returns-in-None
returns-in-None c = before_first-none _ c.args.bytes.now (sym c.in-None.ensures)
