use Rattle.std.proofs.Common.{sym}
use Rattle.avr_elf.specs.Section.{symtab_of}
use Rattle.avr_elf.proofs.ObjectLemmas.{length-symbols_of}
use Rattle.avr_elf.proofs.view.ObjectView.symbol_count.Goals as goal

pub returns-clause-count : goal.returns-clause-count
returns-clause-count c = rw (← c.self.view_is, c.symbol_count.ensures) (sym (length-symbols_of c.self.inside.file.now (symtab_of c.self.inside.file.now)))

pub returns-clause-well_formed : goal.returns-clause-well_formed
returns-clause-well_formed c = rw (← c.self.view_is) c.self.invariant.well_formed
