use Rattle.mote_laws.proofs.Runs.{commits_rise}
use Rattle.mote_laws.proofs.commits_rise.Goals as goal

pub returns : goal.returns
returns c = commits_rise
