use Rattle.update_laws.proofs.Updates.{releases_stay}
use Rattle.update_laws.proofs.releases_stay.Goals as goal

pub returns : goal.returns
returns c = releases_stay
