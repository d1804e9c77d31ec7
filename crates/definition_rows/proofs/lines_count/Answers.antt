use Rattle.definition_rows.proofs.LineRows.{lines_count}
use Rattle.definition_rows.proofs.lines_count.Goals as goal

pub returns : goal.returns
returns c = lines_count
