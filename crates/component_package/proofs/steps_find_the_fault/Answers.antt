use Rattle.component_package.proofs.Laws.{steps_find_the_fault}
use Rattle.component_package.proofs.steps_find_the_fault.Goals as goal

pub returns : goal.returns
returns c = steps_find_the_fault
