use Rattle.update_laws.proofs.Examples.{updates_exist}
use Rattle.update_laws.proofs.updates_exist.Goals as goal

pub returns : goal.returns
returns c = updates_exist
