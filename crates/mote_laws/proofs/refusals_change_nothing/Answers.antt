use Rattle.mote_laws.proofs.Runs.{refusals_change_nothing}
use Rattle.mote_laws.proofs.refusals_change_nothing.Goals as goal

pub returns : goal.returns
returns c = refusals_change_nothing
