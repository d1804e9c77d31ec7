use Rattle.kept_laws.proofs.Standing.{sound_parts_tell as law}
use Rattle.kept_laws.proofs.sound_parts_tell.Goals as goal

pub returns : goal.returns
returns c = law
