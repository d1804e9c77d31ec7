use Rattle.kept_updates.proofs.Examples.{next_updates}
use Rattle.kept_updates.proofs.next_updates.Goals as goal

pub returns : goal.returns
returns c = next_updates
