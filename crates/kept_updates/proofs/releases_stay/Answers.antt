use Rattle.kept_updates.proofs.Updates.{releases_stay}
use Rattle.kept_updates.proofs.releases_stay.Goals as goal

pub returns : goal.returns
returns c = releases_stay
