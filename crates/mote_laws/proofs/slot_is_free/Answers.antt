use Rattle.mote_laws.proofs.Slots.{slot_is_free}
use Rattle.mote_laws.proofs.slot_is_free.Goals as goal

pub returns : goal.returns
returns c = slot_is_free
