use Rattle.std.proofs.Common.{Option, sym, ap, ◌∙◌}
use Rattle.release_rows.specs.declared.row.KeyRow.{KeyRow}
use Rattle.release_rules.specs.declared.decision.Decision.{Decision}
use Rattle.release_rules.specs.Deciding.{settled, judged, by_key}
use Rattle.release_rules.proofs.rules.decide.Goals as goal

pub returns-in-Some-clause-decided : goal.returns-in-Some-clause-decided
returns-in-Some-clause-decided g c = λ t told.
    let digest = c.args.digest.now in
    let new : Decision = settled c.args.key.now digest (judged t c.args.command.now) in
    c.answer_again.ensures.answer new
    ∙ ap (λ (row : Option KeyRow). by_key row digest new) (sym c.in-Some.is ∙ c.in_ok-row.ensures.row t told)
