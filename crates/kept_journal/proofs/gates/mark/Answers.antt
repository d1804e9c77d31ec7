use Rattle.kept_journal.proofs.Opening.{kept_stage, stage_marked}
use Rattle.kept_journal.proofs.gates.mark.Goals as goal

pub returns-in_err-open_gate-clause-each : goal.returns-in_err-open_gate-clause-each
returns-in_err-open_gate-clause-each g c = λ s told. kept_stage _ _ s c.args.stage c.gate_of.result told c.gate_of.ensures c.open_gate.ensures.programs

pub returns-clause-ok : goal.returns-clause-ok
returns-clause-ok g c = λ s told. stage_marked _ _ s c.args.stage c.gate_of.result told c.gate_of.ensures c.open_gate.ensures.programs (c.in_ok-open_gate.ensures.ok s told)

pub returns-clause-each : goal.returns-clause-each
returns-clause-each g c = λ s told. kept_stage _ _ s c.args.stage c.gate_of.result told c.gate_of.ensures c.open_gate.ensures.programs
