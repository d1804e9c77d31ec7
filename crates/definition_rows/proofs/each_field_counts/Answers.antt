use Rattle.definition_rows.proofs.SoundRows.{each_field_counts}
use Rattle.definition_rows.proofs.each_field_counts.Goals as goal

pub returns : goal.returns
returns c = each_field_counts
