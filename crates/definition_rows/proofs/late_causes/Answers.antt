use Rattle.definition_rows.proofs.LinkRows.{late_causes}
use Rattle.definition_rows.proofs.late_causes.Goals as goal

pub returns : goal.returns
returns c = late_causes
