use Rattle.release_updates.proofs.Examples.{worked_updates}
use Rattle.release_updates.proofs.worked_updates.Goals as goal

pub returns : goal.returns
returns c = worked_updates
