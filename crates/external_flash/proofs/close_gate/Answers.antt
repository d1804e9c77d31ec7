use Rattle.std.proofs.Common.{◌∙◌}
use Rattle.flash_pages.specs.State.{always}
use Rattle.flash_pages.proofs.Runs.{reads_programs, reads_alone}
use Rattle.external_flash.specs.Gates.{IsOpen}
use Rattle.external_flash.proofs.close_gate.Goals as goal

pub returns-in_err-gate_is_open-clause-programs : goal.returns-in_err-gate_is_open-clause-programs
returns-in_err-gate_is_open-clause-programs g c = reads_alone _ _ _ _ c.gate_is_open.ensures.reads

pub returns-in_err-ext_program-clause-programs : goal.returns-in_err-ext_program-clause-programs
returns-in_err-ext_program-clause-programs g c =
    rw (← c.page_of.ensures.page) (reads_programs always (IsOpen c.args.gate) _ _ _ _ c.gate_is_open.ensures.reads (λ s told. let a = c.in_ok-gate_is_open.ensures.answer s told in cc) c.ext_program.ensures.programs)

pub returns-in_ok-ext_program-clause-programs : goal.returns-in_ok-ext_program-clause-programs
returns-in_ok-ext_program-clause-programs g c =
    rw (← c.page_of.ensures.page) (reads_programs always (IsOpen c.args.gate) _ _ _ _ c.gate_is_open.ensures.reads (λ s told. let a = c.in_ok-gate_is_open.ensures.answer s told in cc) c.ext_program.ensures.programs)

pub returns-else-branch-clause-programs : goal.returns-else-branch-clause-programs
returns-else-branch-clause-programs g c = reads_alone _ _ _ _ c.gate_is_open.ensures.reads

pub returns-in_ok-ext_program-clause-ok : goal.returns-in_ok-ext_program-clause-ok
returns-in_ok-ext_program-clause-ok g c = λ s told.
    let a = c.in_ok-gate_is_open.ensures.answer s told in
    let is_standing : IsOpen c.args.gate s = cc in
    c.in_ok-ext_program.ensures.ok.state s (c.gate_is_open.ensures.reads.state ∙ told) ∙ (rw c.page_of.ensures.page (rw is_standing))
