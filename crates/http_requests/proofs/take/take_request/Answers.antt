use Rattle.std.proofs.Common.{arith, ◌≤◌, length}
use Rattle.std.proofs.lemmas.Grind.{common_steps}
use Rattle.http_edges.specs.declared.edge.Failed.{Failed}
use Rattle.http_requests.proofs.Rest.{no_body, head_short}
use Rattle.http_requests.proofs.take.take_request.Goals as goal

pub returns-in-Whole-clause-unread : goal.returns-in-Whole-clause-unread
returns-in-Whole-clause-unread g c =
    let short : length c.in-Ok.ensures.gives.0 ≤ 8192 = head_short Failed c.in-Ok.read c.in-Whole.count c.in-Whole.spans _ c.read_head.new.buffer _ c.in-Whole.is c.in-Ok.ensures.gives.3 (grind (arith, common_steps)) in
    no_body c.take_rest.result c.in-Ok.ensures.gives.0 (g.S.Source.view c.args.source.now) (g.S.Source.view c.read_head.new.source) (g.S.Source.view c.take_rest.new.source) short c.in-Ok.ensures.gives.1 c.take_rest.ensures.unread
