use Rattle.avr_elf.proofs.WellFormedLemmas.{means_well_formed}
use Rattle.avr_elf.proofs.law.means_well_formed.Goals as goal

pub returns : goal.returns
returns c = means_well_formed
