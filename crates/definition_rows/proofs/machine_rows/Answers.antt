use Rattle.definition_rows.proofs.MachineRows.{machine_rows}
use Rattle.definition_rows.proofs.machine_rows.Goals as goal

pub returns : goal.returns
returns c = machine_rows
