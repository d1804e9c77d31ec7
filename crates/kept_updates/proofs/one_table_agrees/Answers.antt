use Rattle.kept_updates.proofs.Deliveries.{one_table_agrees}
use Rattle.kept_updates.proofs.one_table_agrees.Goals as goal

pub returns : goal.returns
returns c = one_table_agrees
