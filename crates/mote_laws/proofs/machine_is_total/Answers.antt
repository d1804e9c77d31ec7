use Rattle.mote_laws.proofs.Runs.{machine_is_total}
use Rattle.mote_laws.proofs.machine_is_total.Goals as goal

pub returns : goal.returns
returns c = machine_is_total
