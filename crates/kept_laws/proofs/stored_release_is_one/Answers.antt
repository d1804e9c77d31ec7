use Rattle.kept_laws.proofs.Stored.{stored_release_is_one as law}
use Rattle.kept_laws.proofs.stored_release_is_one.Goals as goal

pub returns : goal.returns
returns c = law
