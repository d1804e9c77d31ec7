use Rattle.drawn_releases.proofs.Examples as rows
use Rattle.drawn_releases.proofs.first_draws.Goals as goal

pub returns : goal.returns
returns c = rows.first_draws
