use Rattle.definition_rows.proofs.SoundRows.{each_gate_counts}
use Rattle.definition_rows.proofs.each_gate_counts.Goals as goal

pub returns : goal.returns
returns c = each_gate_counts
