use Rattle.mote_laws.proofs.Runs.{answers_tell_the_current}
use Rattle.mote_laws.proofs.answers_tell_the_current.Goals as goal

pub returns : goal.returns
returns c = answers_tell_the_current
