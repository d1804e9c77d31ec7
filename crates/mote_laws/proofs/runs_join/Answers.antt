use Rattle.mote_laws.proofs.Runs.{runs_join}
use Rattle.mote_laws.proofs.runs_join.Goals as goal

pub returns : goal.returns
returns c = runs_join
