use Rattle.std.proofs.Common.{arith}
use Rattle.flash_pages.specs.State.{ext_pages}
use Rattle.kept_journal.specs.Steps.{Step, any_mote}
use Rattle.kept_journal.proofs.Takes.{takes_more}
use Rattle.kept_journal.proofs.Closing.{kept_img, kept_rel, kept_sym, unlinked_is}
use Rattle.kept_journal.proofs.gates.unlink.Goals as goal

pub returns-in_err-close_gate-clause-each : goal.returns-in_err-close_gate-clause-each
returns-in_err-close_gate-clause-each g c = λ s told.
    takes_more (Step any_mote (ext_pages 2 4) s) (ext_pages 2 4) 1 3 _ _ (omega arith) (kept_img _ _ s told c.close_gate.ensures.programs)

pub returns-in_err-close_gate-2-clause-each : goal.returns-in_err-close_gate-2-clause-each
returns-in_err-close_gate-2-clause-each g c = λ s told.
    takes_more (Step any_mote (ext_pages 2 4) s) (ext_pages 2 4) 2 3 _ _ (omega arith)
    (kept_rel _ _ s told c.close_gate.ensures.programs _ (c.in_ok-close_gate.ensures.ok s told) c.close_gate-2.ensures.programs)

pub returns-in_err-close_gate-3-clause-each : goal.returns-in_err-close_gate-3-clause-each
returns-in_err-close_gate-3-clause-each g c = λ s told.
    let told_b = c.in_ok-close_gate.ensures.ok s told in
    kept_sym _ _ s told c.close_gate.ensures.programs _ told_b c.close_gate-2.ensures.programs _ (c.in_ok-close_gate-2.ensures.ok _ told_b) c.close_gate-3.ensures.programs

pub returns-clause-ok : goal.returns-clause-ok
returns-clause-ok g c = λ s told.
    let told_b = c.in_ok-close_gate.ensures.ok s told in
    let told_c = c.in_ok-close_gate-2.ensures.ok _ told_b in
    unlinked_is _ _ s told c.close_gate.ensures.programs _ told_b c.close_gate-2.ensures.programs _ told_c c.close_gate-3.ensures.programs (c.in_ok-close_gate-3.ensures.ok _ told_c)

pub returns-clause-each : goal.returns-clause-each
returns-clause-each g c = λ s told.
    let told_b = c.in_ok-close_gate.ensures.ok s told in
    kept_sym _ _ s told c.close_gate.ensures.programs _ told_b c.close_gate-2.ensures.programs _ (c.in_ok-close_gate-2.ensures.ok _ told_b) c.close_gate-3.ensures.programs
