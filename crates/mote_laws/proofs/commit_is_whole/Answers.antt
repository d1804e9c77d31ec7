use Rattle.mote_laws.proofs.Steps.{commit_is_whole}
use Rattle.mote_laws.proofs.commit_is_whole.Goals as goal

pub returns : goal.returns
returns c = commit_is_whole
