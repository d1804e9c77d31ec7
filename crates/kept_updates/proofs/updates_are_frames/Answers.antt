use Rattle.kept_updates.proofs.Deliveries.{updates_are_frames}
use Rattle.kept_updates.proofs.updates_are_frames.Goals as goal

pub returns : goal.returns
returns c = updates_are_frames
