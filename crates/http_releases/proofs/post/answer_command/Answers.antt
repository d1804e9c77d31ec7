use Rattle.std.proofs.Common.{ap}
use Rattle.release_rules.specs.Machine.{answered}
use Rattle.http_releases.specs.Responses.{in_json, posted}
use Rattle.std.proofs.Common.{Some}
use Rattle.http_releases.proofs.Chains.{acts_after, responds_after, read_acts}
use Rattle.http_releases.proofs.post.answer_command.Goals as goal

pub returns-in-Ok-clause-answer : goal.returns-in-Ok-clause-answer
returns-in-Ok-clause-answer g c =
    responds_after c.in-Ok.decision c.settle.result (g.Q.Rows.view c.args.keeper.now) (g.Q.Rows.view c.decide.new.rows) (g.Q.Rows.view c.settle.new.keeper)
    (λ t. in_json (answered c.in-Ok.decision t)) (λ t. posted c.args.key.now c.args.digest.now (Some c.args.command.now) t)
    c.in-Ok.ensures.reads c.settle.ensures.answer (λ t told. ap (λ d. in_json (answered d t)) (c.in-Ok.ensures.decided t told))

pub returns-in-Ok-clause-acts : goal.returns-in-Ok-clause-acts
returns-in-Ok-clause-acts g c =
    acts_after c.in-Ok.decision c.settle.result (g.Q.Rows.view c.args.keeper.now) (g.Q.Rows.view c.decide.new.rows) (g.Q.Rows.view c.settle.new.keeper) c.in-Ok.ensures.reads c.settle.ensures.acts

pub returns-in-Err-clause-acts : goal.returns-in-Err-clause-acts
returns-in-Err-clause-acts g c = read_acts c.in-Err.fault _ _ c.in-Err.ensures.reads
