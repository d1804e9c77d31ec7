use Rattle.std.proofs.Common.{true, false}
use Rattle.external_flash.specs.declared.Gate.TheVariants.{Sel}
use Rattle.external_flash.specs.Gates.{IsOpen, IsShut, opened, closed}
use Rattle.kept_journal.proofs.Bridge.{parts_opened, parts_closed}
use Rattle.kept_journal.proofs.Opening.{kept_sel, selected}
use Rattle.kept_journal.proofs.gates.select.Goals as goal

pub returns-in_err-open_gate-clause-each : goal.returns-in_err-open_gate-clause-each
returns-in_err-open_gate-clause-each g c = λ s told. kept_sel _ _ s (IsShut Sel) told c.open_gate.ensures.programs

pub returns-then-on_b-clause-each : goal.returns-then-on_b-clause-each
returns-then-on_b-clause-each g c = λ s told. kept_sel _ _ s (IsShut Sel) told c.open_gate.ensures.programs

pub returns-then-on_b-clause-ok : goal.returns-then-on_b-clause-ok
returns-then-on_b-clause-ok g c = λ s told.
    rw c.if-on_b.true (selected _ _ s (IsShut Sel) told c.open_gate.ensures.programs true (opened Sel s) (c.in_ok-open_gate.ensures.ok s told) (parts_opened s Sel ((g.B.Board.view c.args.board.now).sizes s told)))

pub returns-in_err-close_gate-clause-each : goal.returns-in_err-close_gate-clause-each
returns-in_err-close_gate-clause-each g c = λ s told. kept_sel _ _ s (IsOpen Sel) told c.close_gate.ensures.programs

pub returns-clause-ok : goal.returns-clause-ok
returns-clause-ok g c = λ s told.
    rw c.if-on_b.false (selected _ _ s (IsOpen Sel) told c.close_gate.ensures.programs false (closed Sel s) (c.in_ok-close_gate.ensures.ok s told) (parts_closed s Sel ((g.B.Board.view c.args.board.now).sizes s told)))

pub returns-clause-each : goal.returns-clause-each
returns-clause-each g c = λ s told. kept_sel _ _ s (IsOpen Sel) told c.close_gate.ensures.programs
