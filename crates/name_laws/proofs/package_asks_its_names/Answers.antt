use Rattle.name_laws.proofs.Asked.{with_numbers}
use Rattle.name_laws.proofs.package_asks_its_names.Goals as goal

pub returns : goal.returns
returns c = with_numbers
