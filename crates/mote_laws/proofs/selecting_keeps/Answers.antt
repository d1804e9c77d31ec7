use Rattle.mote_laws.proofs.Steps.{selecting_keeps}
use Rattle.mote_laws.proofs.selecting_keeps.Goals as goal

pub returns : goal.returns
returns c = selecting_keeps
