use Rattle.component_package.proofs.Laws.{spelling_is_one}
use Rattle.component_package.proofs.spelling_is_one.Goals as goal

pub returns : goal.returns
returns c = spelling_is_one
