use Rattle.std.proofs.Common.{arith}
use Rattle.flash_pages.specs.State.{ext_pages}
use Rattle.kept_journal.specs.Steps.{Step, any_mote}
use Rattle.kept_journal.proofs.Takes.{takes_more}
use Rattle.kept_journal.proofs.Closing.{kept_unlink, kept_man, abandoned_is}
use Rattle.kept_journal.proofs.gates.abandon.Goals as goal

pub returns-in_err-unlink-clause-each : goal.returns-in_err-unlink-clause-each
returns-in_err-unlink-clause-each g c = λ s told.
    takes_more (Step any_mote (ext_pages 1 4) s) (ext_pages 1 4) 3 4 _ _ (omega arith) (kept_unlink _ _ s (c.unlink.ensures.each s told))

pub returns-in_err-close_gate-clause-each : goal.returns-in_err-close_gate-clause-each
returns-in_err-close_gate-clause-each g c = λ s told.
    kept_man _ _ s (c.unlink.ensures.each s told) _ (c.in_ok-unlink.ensures.ok s told) c.close_gate.ensures.programs

pub returns-clause-ok : goal.returns-clause-ok
returns-clause-ok g c = λ s told.
    let before = c.in_ok-unlink.ensures.ok s told in
    abandoned_is _ _ s (c.unlink.ensures.each s told) _ before c.close_gate.ensures.programs (c.in_ok-close_gate.ensures.ok before.end before.told)

pub returns-clause-each : goal.returns-clause-each
returns-clause-each g c = λ s told.
    kept_man _ _ s (c.unlink.ensures.each s told) _ (c.in_ok-unlink.ensures.ok s told) c.close_gate.ensures.programs
