use Rattle.link_laws.proofs.Apart.{fields_of_set_apart}
use Rattle.link_laws.proofs.fields_are_apart.Goals as goal

pub returns : goal.returns
returns c = λ set is. fields_of_set_apart set is.components
