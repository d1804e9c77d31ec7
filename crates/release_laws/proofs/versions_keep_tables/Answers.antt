use Rattle.release_laws.proofs.Versions.{versions_keep_tables}
use Rattle.release_laws.proofs.versions_keep_tables.Goals as goal

pub returns : goal.returns
returns c = versions_keep_tables
