use Rattle.kept_laws.proofs.Counts.{each_gate_counts as law}
use Rattle.kept_laws.proofs.each_gate_counts.Goals as goal

pub returns : goal.returns
returns c = law
