use Rattle.component_package.proofs.ManifestLaws.{faultless_manifests_spell}
use Rattle.component_package.proofs.faultless_manifests_spell.Goals as goal

pub returns : goal.returns
returns c = faultless_manifests_spell
