use Rattle.mote_laws.proofs.Sets.{sets_are_faultless}
use Rattle.mote_laws.proofs.sets_are_faultless.Goals as goal

pub returns : goal.returns
returns c = sets_are_faultless
