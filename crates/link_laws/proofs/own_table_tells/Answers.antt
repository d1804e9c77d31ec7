use Rattle.link_laws.proofs.Few.{own_table}
use Rattle.link_laws.proofs.own_table_tells.Goals as goal

pub returns : goal.returns
returns c = own_table
