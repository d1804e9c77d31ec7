use Rattle.mote_laws.proofs.Standing.{sound_parts_tell}
use Rattle.mote_laws.proofs.sound_parts_tell.Goals as goal

pub returns : goal.returns
returns c = sound_parts_tell
