use Rattle.component_package.proofs.ManifestLaws.{stored_release_is_one}
use Rattle.component_package.proofs.stored_release_is_one.Goals as goal

pub returns : goal.returns
returns c = stored_release_is_one
