use Rattle.kept_sessions.proofs.Lines.{first_parts_tell}
use Rattle.kept_sessions.proofs.first_parts_tell.Goals as goal

pub returns : goal.returns
returns c = first_parts_tell
