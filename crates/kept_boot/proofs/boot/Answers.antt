use Rattle.std.proofs.Common.{Err, ◌∙◌, sym as flip, ap, subst}
use Rattle.kept_manifests.specs.Slots.{stored_of}
use Rattle.kept_journal.specs.Steps.{parts}
use Rattle.kept_journal.specs.Standing.{AnswersFor}
use Rattle.kept_boot.proofs.Installing.{reads_each, read_first, rests_booted, pends_booted, has_started, answers}
use Rattle.kept_boot.proofs.boot.Goals as goal

pub returns-in-Err-Fault-clause-each : goal.returns-in-Err-Fault-clause-each
returns-in-Err-Fault-clause-each g c = λ s told. reads_each _ _ s told c.read_state.ensures.reads

pub returns-in-Err-Unformatted-clause-answer : goal.returns-in-Err-Unformatted-clause-answer
returns-in-Err-Unformatted-clause-answer g c = λ s told.
    subst (λ e. AnswersFor (Err e) (parts s)) c.in-Err-Unformatted.field-0-is (c.in-Err-Unformatted.ensures.answer s told)

pub returns-in-Err-Unformatted-clause-each : goal.returns-in-Err-Unformatted-clause-each
returns-in-Err-Unformatted-clause-each g c = λ s told. reads_each _ _ s told c.read_state.ensures.reads

pub returns-in_default-clause-each : goal.returns-in_default-clause-each
returns-in_default-clause-each g c = λ s told.
    read_first _ _ _ s (stored_of c.in-Ok.standing.current) c.read_state.ensures.reads told (flip (c.in-Ok.ensures.answer s told).pending ∙ c.if-standing.true) (c.in-Ok.ensures.answer s told).current
    (c.install.ensures.each s (c.read_state.ensures.reads.state ∙ told))

pub returns-in-Ok-install-clause-answer : goal.returns-in-Ok-install-clause-answer
returns-in-Ok-install-clause-answer g c = λ s told. answers s c.in-Ok.standing (c.in-Ok.ensures.answer s told)

pub returns-in-Ok-install-clause-ok : goal.returns-in-Ok-install-clause-ok
returns-in-Ok-install-clause-ok g c = λ s told.
    pends_booted _ s (stored_of c.in-Ok.standing.current) (flip (c.in-Ok.ensures.answer s told).pending ∙ c.if-standing.true) (c.in-Ok.ensures.answer s told).current
    (c.in-Ok-install.ensures.ok s (c.read_state.ensures.reads.state ∙ told))

pub returns-in-Ok-install-clause-started : goal.returns-in-Ok-install-clause-started
returns-in-Ok-install-clause-started g c = λ s told t stands.
    has_started t _ s _ stands (ap (λ m. m.number) (c.in-Ok.ensures.mote s told t stands).current) (returns-in-Ok-install-clause-ok g c s told)

pub returns-in-Ok-install-clause-each : goal.returns-in-Ok-install-clause-each
returns-in-Ok-install-clause-each g c = λ s told.
    read_first _ _ _ s (stored_of c.in-Ok.standing.current) c.read_state.ensures.reads told (flip (c.in-Ok.ensures.answer s told).pending ∙ c.if-standing.true) (c.in-Ok.ensures.answer s told).current
    (c.install.ensures.each s (c.read_state.ensures.reads.state ∙ told))

pub returns-else-standing-clause-answer : goal.returns-else-standing-clause-answer
returns-else-standing-clause-answer g c = λ s told. answers s c.in-Ok.standing (c.in-Ok.ensures.answer s told)

pub returns-else-standing-clause-ok : goal.returns-else-standing-clause-ok
returns-else-standing-clause-ok g c = λ s told.
    rests_booted _ s (c.read_state.ensures.reads.state ∙ told) (flip (c.in-Ok.ensures.answer s told).pending ∙ c.if-standing.false)

pub returns-else-standing-clause-started : goal.returns-else-standing-clause-started
returns-else-standing-clause-started g c = λ s told t stands.
    has_started t _ s _ stands (ap (λ m. m.number) (c.in-Ok.ensures.mote s told t stands).current) (returns-else-standing-clause-ok g c s told)

pub returns-else-standing-clause-each : goal.returns-else-standing-clause-each
returns-else-standing-clause-each g c = λ s told. reads_each _ _ s told c.read_state.ensures.reads
