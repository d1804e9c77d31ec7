use Rattle.kept_updates.proofs.Examples.{updates_exist}
use Rattle.kept_updates.proofs.updates_exist.Goals as goal

pub returns : goal.returns
returns c = updates_exist
