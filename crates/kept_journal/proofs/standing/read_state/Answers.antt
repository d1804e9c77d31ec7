use Rattle.std.proofs.Common.{Bool, ◌∙◌, subst}
use Rattle.flash_pages.proofs.Runs.{reads_reads}
use Rattle.kept_journal.specs.Steps.{parts}
use Rattle.kept_journal.specs.Standing.{SideSays, StoresRelease, FlagsSay, side_bytes}
use Rattle.kept_journal.proofs.Side.{side_none, release_none, standing_is, of_mote}
use Rattle.kept_journal.proofs.standing.read_state.Goals as goal

pub returns-in_default-side-clause-answer : goal.returns-in_default-side-clause-answer
returns-in_default-side-clause-answer g c = λ s told.
    side_none (parts s) (subst (λ o. SideSays o (parts s)) c.in_default-side.is (c.in-Ok.ensures.answer s told))

pub returns-in_default-read_release-clause-reads : goal.returns-in_default-read_release-clause-reads
returns-in_default-read_release-clause-reads g c = reads_reads _ _ _ c.read_side.ensures.reads c.read_release.ensures.reads

pub returns-in_default-current-clause-answer : goal.returns-in_default-current-clause-answer
returns-in_default-current-clause-answer g c = λ s told.
    release_none (parts s) c.in-Some.side (subst (λ o. SideSays o (parts s)) c.in-Some.is (c.in-Ok.ensures.answer s told))
    (subst (λ o. StoresRelease (side_bytes c.in-Some.side.on_b (parts s)) o) c.in_default-current.is (c.in-Ok-read_release.ensures.answer s (c.read_side.ensures.reads.state ∙ told)))

pub returns-in_default-current-clause-reads : goal.returns-in_default-current-clause-reads
returns-in_default-current-clause-reads g c = reads_reads _ _ _ c.read_side.ensures.reads c.read_release.ensures.reads

pub returns-in_default-read_incoming-clause-reads : goal.returns-in_default-read_incoming-clause-reads
returns-in_default-read_incoming-clause-reads g c = reads_reads _ _ _ (reads_reads _ _ _ c.read_side.ensures.reads c.read_release.ensures.reads) c.read_incoming.ensures.reads

pub returns-in_default-read_flags-clause-reads : goal.returns-in_default-read_flags-clause-reads
returns-in_default-read_flags-clause-reads g c =
    reads_reads _ _ _ (reads_reads _ _ _ (reads_reads _ _ _ c.read_side.ensures.reads c.read_release.ensures.reads) c.read_incoming.ensures.reads) c.read_flags.ensures.reads

pub returns-clause-answer : goal.returns-clause-answer
returns-clause-answer g c = λ s told.
    let says = subst (λ o. SideSays o (parts s)) c.in-Some.is (c.in-Ok.ensures.answer s told) in
    let told_1 = c.read_side.ensures.reads.state ∙ told in
    let told_2 = c.read_release.ensures.reads.state ∙ told_1 in
    let told_3 = c.read_incoming.ensures.reads.state ∙ told_2 in
    standing_is (parts s) c.in-Some.side c.in-Some-current.current c.in-Ok-read_incoming.incoming c.in-Ok-read_flags.flags says
    (subst (λ o. StoresRelease (side_bytes c.in-Some.side.on_b (parts s)) o) c.in-Some-current.is (c.in-Ok-read_release.ensures.answer s told_1))
    (c.in-Ok-read_incoming.ensures.answer s told_2 says)
    (subst (λ (b : Bool). FlagsSay b c.in-Ok-read_flags.flags (parts s)) c.is_some.ensures (c.in-Ok-read_flags.ensures.answer s told_3))

pub returns-clause-mote : goal.returns-clause-mote
returns-clause-mote g c = λ s told t stands. of_mote (parts s) t _ stands.sound stands.mote (returns-clause-answer g c s told)

pub returns-clause-reads : goal.returns-clause-reads
returns-clause-reads g c =
    reads_reads _ _ _ (reads_reads _ _ _ (reads_reads _ _ _ c.read_side.ensures.reads c.read_release.ensures.reads) c.read_incoming.ensures.reads) c.read_flags.ensures.reads
