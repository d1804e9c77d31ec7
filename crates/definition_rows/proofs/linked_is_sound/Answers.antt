use Rattle.definition_rows.proofs.LinkedRow.{linked_is_sound}
use Rattle.definition_rows.proofs.linked_is_sound.Goals as goal

pub returns : goal.returns
returns c = linked_is_sound
