use Rattle.kept_sessions.proofs.Lines.{lines_tell_the_current}
use Rattle.kept_sessions.proofs.lines_tell_the_current.Goals as goal

pub returns : goal.returns
returns c = lines_tell_the_current
