use Rattle.kept_core.proofs.Rows.{status_standing, status_resting}
use Rattle.std.proofs.Common.{ap, ◌∙◌, ℕ}
use Rattle.component_package.specs.declared.answer.Answer.TheVariants.{Status}
use Rattle.kept_core.specs.Frames.{number_of}
use Rattle.kept_core.proofs.frames.status.status_of.Goals as goal

pub returns-then-standing-clause-answer : goal.returns-then-standing-clause-answer
returns-then-standing-clause-answer c t is = status_standing t _ is c.if-standing.true

pub returns-clause-answer : goal.returns-clause-answer
returns-clause-answer c t is =
    ap (λ (n : ℕ). Status c.args.standing.now.current.manifest.release n c.stage_number.result) c.incoming_number.ensures
    ∙ ap (λ (n : ℕ). Status c.args.standing.now.current.manifest.release (number_of c.args.standing.now) n) c.stage_number.ensures
    ∙ status_resting t c.args.standing.now is c.if-standing.false
