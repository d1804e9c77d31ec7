use Rattle.mote_laws.proofs.Sets.{other_sets_stay}
use Rattle.mote_laws.proofs.other_sets_stay.Goals as goal

pub returns : goal.returns
returns c = other_sets_stay
