use Rattle.kept_updates.proofs.Updates.{updates_install}
use Rattle.kept_updates.proofs.updates_install.Goals as goal

pub returns : goal.returns
returns c = updates_install
