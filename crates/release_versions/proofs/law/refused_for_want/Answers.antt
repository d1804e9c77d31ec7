use Rattle.release_versions.proofs.Wanting.{refused_for_want}
use Rattle.release_versions.proofs.law.refused_for_want.Goals as goal

pub returns : goal.returns
returns c = refused_for_want
