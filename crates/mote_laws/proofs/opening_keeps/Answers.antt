use Rattle.mote_laws.proofs.Steps.{opening_keeps}
use Rattle.mote_laws.proofs.opening_keeps.Goals as goal

pub returns : goal.returns
returns c = opening_keeps
