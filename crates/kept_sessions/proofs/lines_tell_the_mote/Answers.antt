use Rattle.kept_sessions.proofs.History.{lines_tell_the_mote}
use Rattle.kept_sessions.proofs.lines_tell_the_mote.Goals as goal

pub returns : goal.returns
returns c = lines_tell_the_mote
