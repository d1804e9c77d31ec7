use Rattle.avr_elf.proofs.ObjectLemmas.{one_object}
use Rattle.avr_elf.proofs.law.means_one_object.Goals as goal

pub returns : goal.returns
returns c = one_object
