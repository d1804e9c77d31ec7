use Rattle.mote_laws.proofs.Slots.{slots_are_found}
use Rattle.mote_laws.proofs.slots_are_found.Goals as goal

pub returns : goal.returns
returns c = slots_are_found
