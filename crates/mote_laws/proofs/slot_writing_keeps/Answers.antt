use Rattle.mote_laws.proofs.Steps.{slot_writing_keeps}
use Rattle.mote_laws.proofs.slot_writing_keeps.Goals as goal

pub returns : goal.returns
returns c = slot_writing_keeps
