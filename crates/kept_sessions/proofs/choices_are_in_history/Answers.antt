use Rattle.kept_sessions.proofs.History.{choices_are_in_history}
use Rattle.kept_sessions.proofs.choices_are_in_history.Goals as goal

pub returns : goal.returns
returns c = choices_are_in_history
