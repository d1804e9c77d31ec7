use Rattle.mote_laws.proofs.Stands.{standing_steps_stand}
use Rattle.mote_laws.proofs.standing_steps_stand.Goals as goal

pub returns : goal.returns
returns c = standing_steps_stand
