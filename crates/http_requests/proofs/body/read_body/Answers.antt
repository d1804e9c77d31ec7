use Rattle.std.proofs.Common.{arith, length, ◌≡◌}
use Rattle.std.proofs.lemmas.Grind.{common_steps}
use Rattle.http_requests.proofs.Bodies.{body_there, body_full, is_filled}
use Rattle.http_requests.proofs.body.read_body.Goals as goal

pub returns-then-count-start-clause-tells : goal.returns-then-count-start-clause-tells
returns-then-count-start-clause-tells g c =
    body_there c.args.start.now _ (g.S.Source.view c.args.source.now).left c.args.count c.if-count-start.true c.in-Ok.ensures.items

pub returns-clause-tells : goal.returns-clause-tells
returns-clause-tells g c =
    let size : length c.fill.new.into ≡ c.in-Ok-vec.body.len = grind (arith, common_steps) in
    let long : c.in-Ok-vec.body.len ≡ c.args.count = grind (arith, common_steps) in
    body_full _ _ c.fill.new.into _ c.in-Ok-vec.body.len c.args.count size long (is_filled c.args.start.now c.fill.new.into (g.S.Source.view c.args.source.now) (g.S.Source.view c.fill.new.source) c.in-Ok-fill.full c.if-not-full.false c.in-Ok-fill.ensures.filled)
