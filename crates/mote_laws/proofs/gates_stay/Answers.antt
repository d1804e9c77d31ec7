use Rattle.mote_laws.proofs.Standing.{gates_stay}
use Rattle.mote_laws.proofs.gates_stay.Goals as goal

pub returns : goal.returns
returns c = gates_stay
