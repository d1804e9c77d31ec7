use Rattle.release_laws.proofs.Answers.{answers_keep_tables}
use Rattle.release_laws.proofs.answers_keep_tables.Goals as goal

pub returns : goal.returns
returns c = answers_keep_tables
