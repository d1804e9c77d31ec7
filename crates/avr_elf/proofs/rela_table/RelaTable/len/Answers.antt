use Rattle.std.proofs.Common.{sym}
use Rattle.avr_elf.proofs.Lists.{length-list_of}
use Rattle.avr_elf.proofs.rela_table.RelaTable.len.Goals as goal

pub returns : goal.returns
returns c = rw (← c.self.view_is) (sym (length-list_of _ c.self.inside.count))
