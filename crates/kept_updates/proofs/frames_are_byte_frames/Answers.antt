use Rattle.kept_updates.proofs.Updates.{frames_are_byte_frames}
use Rattle.kept_updates.proofs.frames_are_byte_frames.Goals as goal

pub returns : goal.returns
returns c = frames_are_byte_frames
