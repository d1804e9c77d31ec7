use Rattle.definition_rows.proofs.LinkRows.{cause_rows}
use Rattle.definition_rows.proofs.cause_rows.Goals as goal

pub returns : goal.returns
returns c = cause_rows
