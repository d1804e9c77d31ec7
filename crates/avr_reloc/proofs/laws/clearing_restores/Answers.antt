use Rattle.avr_reloc.proofs.Cleared.{cleared}
use Rattle.avr_reloc.proofs.laws.clearing_restores.Goals as goal

pub returns : goal.returns
returns c = cleared
