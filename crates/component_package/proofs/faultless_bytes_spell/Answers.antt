use Rattle.component_package.proofs.Laws.{faultless_bytes_spell}
use Rattle.component_package.proofs.faultless_bytes_spell.Goals as goal

pub returns : goal.returns
returns c = faultless_bytes_spell
