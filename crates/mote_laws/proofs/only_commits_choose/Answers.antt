use Rattle.mote_laws.proofs.Stands.{only_commits_choose}
use Rattle.mote_laws.proofs.only_commits_choose.Goals as goal

pub returns : goal.returns
returns c = only_commits_choose
