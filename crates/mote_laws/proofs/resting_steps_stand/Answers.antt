use Rattle.mote_laws.proofs.Stands.{resting_steps_stand}
use Rattle.mote_laws.proofs.resting_steps_stand.Goals as goal

pub returns : goal.returns
returns c = resting_steps_stand
