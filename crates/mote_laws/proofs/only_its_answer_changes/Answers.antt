use Rattle.mote_laws.proofs.Runs.{only_its_answer_changes}
use Rattle.mote_laws.proofs.only_its_answer_changes.Goals as goal

pub returns : goal.returns
returns c = only_its_answer_changes
