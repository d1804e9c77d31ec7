use Rattle.mote_laws.proofs.Invariant.{byte_frames}
use Rattle.mote_laws.proofs.frames_are_byte_frames.Goals as goal

pub returns : goal.returns
returns c = byte_frames
