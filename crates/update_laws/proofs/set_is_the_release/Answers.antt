use Rattle.update_laws.proofs.Updates.{set_is_the_release}
use Rattle.update_laws.proofs.set_is_the_release.Goals as goal

pub returns : goal.returns
returns c = set_is_the_release
