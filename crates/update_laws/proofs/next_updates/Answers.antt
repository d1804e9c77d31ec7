use Rattle.update_laws.proofs.Examples.{next_updates}
use Rattle.update_laws.proofs.next_updates.Goals as goal

pub returns : goal.returns
returns c = next_updates
