use Rattle.kept_updates.proofs.Updates.{set_is_the_release}
use Rattle.kept_updates.proofs.set_is_the_release.Goals as goal

pub returns : goal.returns
returns c = set_is_the_release
