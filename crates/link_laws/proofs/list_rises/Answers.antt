use Rattle.link_laws.proofs.Own.{rises}
use Rattle.link_laws.proofs.list_rises.Goals as goal

pub returns : goal.returns
returns c = rises
