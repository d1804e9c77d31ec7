use Rattle.mote_laws.proofs.Stands.{choice_is_the_motes}
use Rattle.mote_laws.proofs.choice_is_the_motes.Goals as goal

pub returns : goal.returns
returns c = choice_is_the_motes
