use Rattle.release_laws.proofs.Worked.{worked_history}
use Rattle.release_laws.proofs.worked_history.Goals as goal

pub returns : goal.returns
returns c = worked_history
