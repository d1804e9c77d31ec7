use Rattle.update_laws.proofs.Examples.{first_update}
use Rattle.update_laws.proofs.first_update.Goals as goal

pub returns : goal.returns
returns c = first_update
