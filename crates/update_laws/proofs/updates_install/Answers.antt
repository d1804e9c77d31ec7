use Rattle.update_laws.proofs.Updates.{updates_install}
use Rattle.update_laws.proofs.updates_install.Goals as goal

pub returns : goal.returns
returns c = updates_install
