use Rattle.mote_laws.proofs.Steps.{finishing_keeps}
use Rattle.mote_laws.proofs.finishing_keeps.Goals as goal

pub returns : goal.returns
returns c = finishing_keeps
