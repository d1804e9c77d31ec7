use Rattle.kept_sessions.proofs.Kept.{frames_are_kept}
use Rattle.kept_sessions.proofs.frames_are_kept.Goals as goal

pub returns : goal.returns
returns c = frames_are_kept
