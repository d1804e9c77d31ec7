use Rattle.std.proofs.Common.{Some, ◌∙◌, sym, ap}
use Rattle.flash_pages.specs.State.{Ext, always, with_page}
use Rattle.flash_pages.proofs.Pages.{with_page-same}
use Rattle.flash_pages.proofs.Runs.{reads_programs, reads_alone}
use Rattle.external_flash.specs.Areas.{Differs}
use Rattle.external_flash.proofs.program_if_different.Goals as goal

pub returns-in_err-ext_read-clause-programs : goal.returns-in_err-ext_read-clause-programs
returns-in_err-ext_read-clause-programs g c = reads_alone _ _ _ _ c.ext_read.ensures.reads

pub returns-then-is_same-clause-programs : goal.returns-then-is_same-clause-programs
returns-then-is_same-clause-programs g c = reads_alone _ _ _ _ c.ext_read.ensures.reads

pub returns-then-is_same-clause-ok : goal.returns-then-is_same-clause-ok
returns-then-is_same-clause-ok g c = λ s told.
    let held = sym (c.in_ok-ext_read.ensures.page s told) ∙ c.is_same.ensures.0 c.if-is_same.true in
    c.ext_read.ensures.reads.state ∙ told ∙ ap Some (sym (with_page-same s (Ext c.args.page)) ∙ ap (λ bytes. with_page s (Ext c.args.page) bytes) held)

pub returns-in_err-ext_program-clause-programs : goal.returns-in_err-ext_program-clause-programs
returns-in_err-ext_program-clause-programs g c =
    reads_programs always (Differs (Ext c.args.page) c.args.bytes.now) _ _ _ _ c.ext_read.ensures.reads (λ s told equal. let a = c.in_ok-ext_read.ensures.page s told in let t = c.is_same.ensures.1 (a ∙ equal) in cc) c.ext_program.ensures.programs

pub returns-clause-programs : goal.returns-clause-programs
returns-clause-programs g c =
    reads_programs always (Differs (Ext c.args.page) c.args.bytes.now) _ _ _ _ c.ext_read.ensures.reads (λ s told equal. let a = c.in_ok-ext_read.ensures.page s told in let t = c.is_same.ensures.1 (a ∙ equal) in cc) c.ext_program.ensures.programs
