use Rattle.mote_laws.proofs.Runs.{commits_are_whole}
use Rattle.mote_laws.proofs.commits_are_whole.Goals as goal

pub returns : goal.returns
returns c = commits_are_whole
