use Rattle.definition_rows.proofs.LinkRows.{layout_rows}
use Rattle.definition_rows.proofs.layout_rows.Goals as goal

pub returns : goal.returns
returns c = layout_rows
