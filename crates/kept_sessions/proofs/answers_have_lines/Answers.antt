use Rattle.kept_sessions.proofs.Lines.{answers_have_lines}
use Rattle.kept_sessions.proofs.answers_have_lines.Goals as goal

pub returns : goal.returns
returns c = answers_have_lines
