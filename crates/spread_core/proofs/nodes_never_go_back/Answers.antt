use Rattle.spread_core.proofs.Rising.{nodes_never_go_back}
use Rattle.spread_core.proofs.nodes_never_go_back.Goals as goal

pub returns : goal.returns
returns c = nodes_never_go_back
