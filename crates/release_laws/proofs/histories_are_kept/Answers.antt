use Rattle.release_laws.proofs.Histories.{histories_are_kept}
use Rattle.release_laws.proofs.histories_are_kept.Goals as goal

pub returns : goal.returns
returns c = histories_are_kept
