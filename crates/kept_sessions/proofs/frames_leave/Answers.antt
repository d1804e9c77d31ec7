use Rattle.kept_sessions.proofs.Kept.{frames_leave}
use Rattle.kept_sessions.proofs.frames_leave.Goals as goal

pub returns : goal.returns
returns c = frames_leave
