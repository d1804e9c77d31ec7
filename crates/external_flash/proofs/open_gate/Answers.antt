use Rattle.flash_pages.specs.State.{always}
use Rattle.flash_pages.proofs.Runs.{reads_programs, reads_alone}
use Rattle.external_flash.specs.Gates.{IsShut}
use Rattle.external_flash.proofs.open_gate.Goals as goal

pub returns-in_err-gate_is_open-clause-programs : goal.returns-in_err-gate_is_open-clause-programs
returns-in_err-gate_is_open-clause-programs g c = reads_alone _ _ _ _ c.gate_is_open.ensures.reads

pub returns-in_err-ext_program-clause-programs : goal.returns-in_err-ext_program-clause-programs
returns-in_err-ext_program-clause-programs g c =
    rw (← c.page_of.ensures.page) (reads_programs always (IsShut c.args.gate) _ _ _ _ c.gate_is_open.ensures.reads (λ s told. let a = c.in_ok-gate_is_open.ensures.answer s told in cc) c.ext_program.ensures.programs)

pub returns-in_ok-ext_program-clause-programs : goal.returns-in_ok-ext_program-clause-programs
returns-in_ok-ext_program-clause-programs g c =
    rw (← c.page_of.ensures.page) (reads_programs always (IsShut c.args.gate) _ _ _ _ c.gate_is_open.ensures.reads (λ s told. let a = c.in_ok-gate_is_open.ensures.answer s told in cc) c.ext_program.ensures.programs)

pub returns-else-not-branch-clause-programs : goal.returns-else-not-branch-clause-programs
returns-else-not-branch-clause-programs g c = reads_alone _ _ _ _ c.gate_is_open.ensures.reads
