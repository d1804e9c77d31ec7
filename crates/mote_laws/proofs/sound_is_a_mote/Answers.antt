use Rattle.mote_laws.proofs.Invariant.{sound_is_a_mote}
use Rattle.mote_laws.proofs.sound_is_a_mote.Goals as goal

pub returns : goal.returns
returns c = sound_is_a_mote
