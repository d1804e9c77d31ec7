use Rattle.definition_rows.proofs.LinkRows.{causes_in_order}
use Rattle.definition_rows.proofs.causes_in_order.Goals as goal

pub returns : goal.returns
returns c = causes_in_order
