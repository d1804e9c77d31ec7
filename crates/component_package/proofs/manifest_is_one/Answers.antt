use Rattle.component_package.proofs.ManifestLaws.{manifest_is_one}
use Rattle.component_package.proofs.manifest_is_one.Goals as goal

pub returns : goal.returns
returns c = manifest_is_one
