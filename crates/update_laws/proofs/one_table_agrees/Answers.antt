use Rattle.update_laws.proofs.Deliveries.{one_table_agrees}
use Rattle.update_laws.proofs.one_table_agrees.Goals as goal

pub returns : goal.returns
returns c = one_table_agrees
