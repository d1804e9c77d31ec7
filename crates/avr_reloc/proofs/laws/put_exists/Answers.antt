use Rattle.avr_reloc.proofs.Exists.{exists}
use Rattle.avr_reloc.proofs.laws.put_exists.Goals as goal

pub returns : goal.returns
returns c = exists
