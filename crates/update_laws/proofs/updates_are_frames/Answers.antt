use Rattle.update_laws.proofs.Deliveries.{updates_are_frames}
use Rattle.update_laws.proofs.updates_are_frames.Goals as goal

pub returns : goal.returns
returns c = updates_are_frames
