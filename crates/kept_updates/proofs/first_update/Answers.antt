use Rattle.kept_updates.proofs.Examples.{first_update}
use Rattle.kept_updates.proofs.first_update.Goals as goal

pub returns : goal.returns
returns c = first_update
