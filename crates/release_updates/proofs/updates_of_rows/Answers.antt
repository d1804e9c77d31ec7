use Rattle.release_updates.proofs.Laws.{updates_of_rows}
use Rattle.release_updates.proofs.updates_of_rows.Goals as goal

pub returns : goal.returns
returns c = updates_of_rows
