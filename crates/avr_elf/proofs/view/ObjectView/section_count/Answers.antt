use Rattle.std.proofs.Common.{sym}
use Rattle.avr_elf.specs.Object.{section_of}
use Rattle.avr_elf.proofs.Lists.{length-list_of}
use Rattle.avr_elf.proofs.view.ObjectView.section_count.Goals as goal

pub returns-clause-count : goal.returns-clause-count
returns-clause-count c = rw (← c.self.view_is, c.section_count.ensures) (sym (length-list_of (section_of c.self.inside.file.now) _))

pub returns-clause-well_formed : goal.returns-clause-well_formed
returns-clause-well_formed c = rw (← c.self.view_is) c.self.invariant.well_formed
