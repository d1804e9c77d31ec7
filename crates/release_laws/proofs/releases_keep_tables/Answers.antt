use Rattle.release_laws.proofs.Releases.{releases_keep_tables}
use Rattle.release_laws.proofs.releases_keep_tables.Goals as goal

pub returns : goal.returns
returns c = releases_keep_tables
