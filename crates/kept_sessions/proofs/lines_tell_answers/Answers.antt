use Rattle.kept_sessions.proofs.Injective.{lines_tell_answers}
use Rattle.kept_sessions.proofs.lines_tell_answers.Goals as goal

pub returns : goal.returns
returns c = lines_tell_answers
