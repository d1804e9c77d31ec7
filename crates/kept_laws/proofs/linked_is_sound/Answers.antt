use Rattle.kept_laws.proofs.LinkedRow.{linked_is_sound as law}
use Rattle.kept_laws.proofs.linked_is_sound.Goals as goal

pub returns : goal.returns
returns c = law
