use Rattle.link_laws.proofs.Table.{table_exists, table_one}
use Rattle.link_laws.proofs.table_exists_once.Goals as goal

pub returns : goal.returns
returns c = record { exists = table_exists; one = table_one }
