use Rattle.std.proofs.Common.{◌∙◌}
use Rattle.kept_journal.specs.Steps.{parts}
use Rattle.external_flash.specs.Gates.{gate_page}
use Rattle.kept_journal.proofs.Opening.{other_gate, stays_go, kept_go, committed_is}
use Rattle.kept_journal.proofs.gates.go.Goals as goal

pub returns-in_err-on_b-clause-each : goal.returns-in_err-on_b-clause-each
returns-in_err-on_b-clause-each g c = λ s told. stays_go _ _ s told c.is_on_b.ensures.reads

pub returns-in_err-open_gate-clause-each : goal.returns-in_err-open_gate-clause-each
returns-in_err-open_gate-clause-each g c = λ s told.
    kept_go _ _ _ s c.go_gate.result told c.is_on_b.ensures.reads (other_gate _ (parts s) (gate_page c.go_gate.result) (c.in_ok-on_b.ensures.answer s told) c.go_gate.ensures) c.open_gate.ensures.programs

pub returns-clause-ok : goal.returns-clause-ok
returns-clause-ok g c = λ s told.
    committed_is _ _ _ s c.go_gate.result told c.is_on_b.ensures.reads (other_gate _ (parts s) (gate_page c.go_gate.result) (c.in_ok-on_b.ensures.answer s told) c.go_gate.ensures) c.open_gate.ensures.programs
    (c.in_ok-open_gate.ensures.ok s (c.is_on_b.ensures.reads.state ∙ told))

pub returns-clause-each : goal.returns-clause-each
returns-clause-each g c = λ s told.
    kept_go _ _ _ s c.go_gate.result told c.is_on_b.ensures.reads (other_gate _ (parts s) (gate_page c.go_gate.result) (c.in_ok-on_b.ensures.answer s told) c.go_gate.ensures) c.open_gate.ensures.programs
