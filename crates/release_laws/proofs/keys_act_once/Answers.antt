use Rattle.release_laws.proofs.Keys.{keys_act_once}
use Rattle.release_laws.proofs.keys_act_once.Goals as goal

pub returns : goal.returns
returns c = keys_act_once
