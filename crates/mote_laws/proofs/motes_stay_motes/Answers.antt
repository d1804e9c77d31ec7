use Rattle.mote_laws.proofs.Invariant.{motes_stay_motes}
use Rattle.mote_laws.proofs.motes_stay_motes.Goals as goal

pub returns : goal.returns
returns c = motes_stay_motes
