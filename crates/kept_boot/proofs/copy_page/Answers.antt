use Rattle.std.proofs.lemmas.Bool.{false≢true}
use Rattle.std.proofs.Common.{Some, ◌∙◌, sym as flip, ap}
use Rattle.flash_pages.specs.State.{Prog, always, with_page}
use Rattle.flash_pages.proofs.Pages.{with_page-same}
use Rattle.flash_pages.proofs.Runs.{reads_reads, reads_programs, reads_alone}
use Rattle.kept_journal.specs.Steps.{parts}
use Rattle.kept_boot.specs.Boots.{IsBehind}
use Rattle.kept_boot.proofs.Copies.{staged_page}
use Rattle.kept_boot.proofs.copy_page.Goals as goal

pub returns-in_err-ext_read-clause-programs : goal.returns-in_err-ext_read-clause-programs
returns-in_err-ext_read-clause-programs g c = reads_alone _ _ _ _ c.ext_read.ensures.reads

pub returns-in_err-prog_read-clause-programs : goal.returns-in_err-prog_read-clause-programs
returns-in_err-prog_read-clause-programs g c = reads_alone _ _ _ _ (reads_reads _ _ _ c.ext_read.ensures.reads c.prog_read.ensures.reads)

pub returns-in_err-prog_program-clause-programs : goal.returns-in_err-prog_program-clause-programs
returns-in_err-prog_program-clause-programs g c =
    reads_programs always (λ s. IsBehind (parts s) c.args.page) (Prog c.args.page) _ _ _ (reads_reads _ _ _ c.ext_read.ensures.reads c.prog_read.ensures.reads) (λ s told equal.
    let told_mid = c.ext_read.ensures.reads.state ∙ told in
    let is = c.is_same.ensures.1 (c.in_ok-prog_read.ensures.page s told_mid ∙ equal ∙ staged_page s c.args.page c.requires ∙ flip (c.in_ok-ext_read.ensures.page s told)) in
    false≢true (flip c.if-not-is_same.true ∙ is)) c.prog_program.ensures.programs

pub returns-in_ok-prog_program-clause-programs : goal.returns-in_ok-prog_program-clause-programs
returns-in_ok-prog_program-clause-programs g c =
    reads_programs always (λ s. IsBehind (parts s) c.args.page) (Prog c.args.page) _ _ _ (reads_reads _ _ _ c.ext_read.ensures.reads c.prog_read.ensures.reads) (λ s told equal.
    let told_mid = c.ext_read.ensures.reads.state ∙ told in
    let is = c.is_same.ensures.1 (c.in_ok-prog_read.ensures.page s told_mid ∙ equal ∙ staged_page s c.args.page c.requires ∙ flip (c.in_ok-ext_read.ensures.page s told)) in
    false≢true (flip c.if-not-is_same.true ∙ is)) c.prog_program.ensures.programs

pub returns-else-not-is_same-clause-programs : goal.returns-else-not-is_same-clause-programs
returns-else-not-is_same-clause-programs g c = reads_alone _ _ _ _ (reads_reads _ _ _ c.ext_read.ensures.reads c.prog_read.ensures.reads)

pub returns-else-not-is_same-clause-ok : goal.returns-else-not-is_same-clause-ok
returns-else-not-is_same-clause-ok g c = λ s told.
    let told_mid = c.ext_read.ensures.reads.state ∙ told in
    let here = c.in_ok-ext_read.ensures.page s told in
    let there = c.in_ok-prog_read.ensures.page s told_mid in
    let same = c.is_same.ensures.0 c.if-not-is_same.false in
    c.prog_read.ensures.reads.state ∙ told_mid ∙ ap Some (flip (with_page-same s (Prog c.args.page)) ∙ ap (λ bytes. with_page s (Prog c.args.page) bytes) (flip there ∙ same ∙ here))
