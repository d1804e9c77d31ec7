use Rattle.avr_reloc.proofs.Fixups.{ArePut-same}
use Rattle.avr_reloc.proofs.laws.put_is_determined.Goals as goal

pub returns : goal.returns
returns c = ArePut-same
