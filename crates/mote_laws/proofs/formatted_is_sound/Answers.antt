use Rattle.mote_laws.proofs.Formatted.{formatted_is_sound}
use Rattle.mote_laws.proofs.formatted_is_sound.Goals as goal

pub returns : goal.returns
returns c = formatted_is_sound
