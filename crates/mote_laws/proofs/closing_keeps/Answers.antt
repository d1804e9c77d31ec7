use Rattle.mote_laws.proofs.Steps.{closing_keeps}
use Rattle.mote_laws.proofs.closing_keeps.Goals as goal

pub returns : goal.returns
returns c = closing_keeps
