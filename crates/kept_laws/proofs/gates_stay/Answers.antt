use Rattle.kept_laws.proofs.Standing.{gates_stay as law}
use Rattle.kept_laws.proofs.gates_stay.Goals as goal

pub returns : goal.returns
returns c = law
