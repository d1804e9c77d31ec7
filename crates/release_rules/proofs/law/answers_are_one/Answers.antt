use Rattle.release_rules.proofs.Once.{answer_one, answer_exists}
use Rattle.release_rules.proofs.law.answers_are_one.Goals as goal

pub returns : goal.returns
returns c = record { one = answer_one; exists = answer_exists }
