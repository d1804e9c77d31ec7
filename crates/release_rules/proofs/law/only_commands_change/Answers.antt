use Rattle.release_rules.proofs.Once.{only_accepted}
use Rattle.release_rules.proofs.law.only_commands_change.Goals as goal

pub returns : goal.returns
returns c = only_accepted
