use Rattle.component_package.proofs.Unique.{frames_one}
use Rattle.component_package.proofs.frames_are_one.Goals as goal

pub returns : goal.returns
returns c = frames_one
