use Rattle.kept_laws.proofs.LineRows.{lines_count as law}
use Rattle.kept_laws.proofs.lines_count.Goals as goal

pub returns : goal.returns
returns c = law
