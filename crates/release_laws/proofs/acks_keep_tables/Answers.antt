use Rattle.release_laws.proofs.Acks.{acks_keep_tables}
use Rattle.release_laws.proofs.acks_keep_tables.Goals as goal

pub returns : goal.returns
returns c = acks_keep_tables
