use Rattle.definition_rows.proofs.SoundRows.{each_image_counts}
use Rattle.definition_rows.proofs.each_image_counts.Goals as goal

pub returns : goal.returns
returns c = each_image_counts
