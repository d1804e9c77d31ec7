use Rattle.mote_laws.proofs.Stands.{cut_commit_is_whole}
use Rattle.mote_laws.proofs.cut_commit_is_whole.Goals as goal

pub returns : goal.returns
returns c = cut_commit_is_whole
