use Rattle.kept_definitions.proofs.StoredRows.{layouts_differ as law}
use Rattle.kept_definitions.proofs.layouts_differ.Goals as goal

pub returns : goal.returns
returns c = law
