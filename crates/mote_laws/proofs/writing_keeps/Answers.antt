use Rattle.mote_laws.proofs.Steps.{writing_keeps}
use Rattle.mote_laws.proofs.writing_keeps.Goals as goal

pub returns : goal.returns
returns c = writing_keeps
