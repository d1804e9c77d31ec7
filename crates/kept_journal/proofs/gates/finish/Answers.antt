use Rattle.std.proofs.Common.{arith, ◌∙◌}
use Rattle.flash_pages.specs.State.{ext_pages}
use Rattle.kept_journal.specs.Steps.{parts, Step, Pends, IsCopied}
use Rattle.kept_journal.proofs.Takes.{takes_more}
use Rattle.kept_journal.proofs.Finishing.{zero, one, five, six, is_finished}
use Rattle.kept_journal.proofs.gates.finish.Goals as goal

pub returns-in_err-on_b-clause-each : goal.returns-in_err-on_b-clause-each
returns-in_err-on_b-clause-each g c = λ s told.
    takes_more (Step (λ t. Pends t × IsCopied (parts s)) (ext_pages 1 7) s) (ext_pages 1 7) 0 6 _ _ (omega arith) (zero _ _ s told c.is_on_b.ensures.reads)

pub returns-in_err-select-clause-each : goal.returns-in_err-select-clause-each
returns-in_err-select-clause-each g c = λ s told.
    takes_more (Step (λ t. Pends t × IsCopied (parts s)) (ext_pages 1 7) s) (ext_pages 1 7) 1 6 _ _ (omega arith)
    (one _ _ s told c.is_on_b.ensures.reads _ (c.select.ensures.each s (c.is_on_b.ensures.reads.state ∙ told)))

pub returns-in_err-abandon-clause-each : goal.returns-in_err-abandon-clause-each
returns-in_err-abandon-clause-each g c = λ s told.
    let told_b = c.is_on_b.ensures.reads.state ∙ told in
    let chosen = c.in_ok-select.ensures.ok s told_b in
    takes_more (Step (λ t. Pends t × IsCopied (parts s)) (ext_pages 1 7) s) (ext_pages 1 7) 5 6 _ _ (omega arith)
    (five _ _ s told c.is_on_b.ensures.reads _ (c.select.ensures.each s told_b) _ _ chosen (c.abandon.ensures.each chosen.end chosen.told))

pub returns-in_err-close_gate-clause-each : goal.returns-in_err-close_gate-clause-each
returns-in_err-close_gate-clause-each g c = λ s told.
    let told_b = c.is_on_b.ensures.reads.state ∙ told in
    let chosen = c.in_ok-select.ensures.ok s told_b in
    six _ _ s told c.is_on_b.ensures.reads _ (c.select.ensures.each s told_b) _ _ chosen (c.abandon.ensures.each chosen.end chosen.told)
    _ c.go_gate.result (c.in_ok-on_b.ensures.answer s told) c.go_gate.ensures (c.in_ok-abandon.ensures.ok chosen.end chosen.told) c.close_gate.ensures.programs

pub returns-clause-ok : goal.returns-clause-ok
returns-clause-ok g c = λ s told.
    let told_b = c.is_on_b.ensures.reads.state ∙ told in
    let chosen = c.in_ok-select.ensures.ok s told_b in
    let shut = c.in_ok-abandon.ensures.ok chosen.end chosen.told in
    is_finished _ _ s told c.is_on_b.ensures.reads _ (c.select.ensures.each s told_b) _ _ chosen (c.abandon.ensures.each chosen.end chosen.told)
    _ c.go_gate.result (c.in_ok-on_b.ensures.answer s told) c.go_gate.ensures shut c.close_gate.ensures.programs (c.in_ok-close_gate.ensures.ok shut.end shut.told)

pub returns-clause-each : goal.returns-clause-each
returns-clause-each g c = λ s told.
    let told_b = c.is_on_b.ensures.reads.state ∙ told in
    let chosen = c.in_ok-select.ensures.ok s told_b in
    six _ _ s told c.is_on_b.ensures.reads _ (c.select.ensures.each s told_b) _ _ chosen (c.abandon.ensures.each chosen.end chosen.told)
    _ c.go_gate.result (c.in_ok-on_b.ensures.answer s told) c.go_gate.ensures (c.in_ok-abandon.ensures.ok chosen.end chosen.told) c.close_gate.ensures.programs
