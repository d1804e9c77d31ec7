use Rattle.std.proofs.Common.{arith, subst, ◌≤◌, length, take}
use Rattle.std.proofs.lemmas.Grind.{common_steps}
use Rattle.http_requests.specs.Taken.{TellsBody, HasSize}
use Rattle.http_requests.proofs.Rest.{cut_by, whole_by, body_most}
use Rattle.http_requests.proofs.take.take_rest.Goals as goal

pub returns-in-Cut-clause-kind : goal.returns-in-Cut-clause-kind
returns-in-Cut-clause-kind g c =
    let short : length (take c.args.count c.args.buffer.now) ≤ 8192 = grind (arith, common_steps) in
    cut_by (take c.args.count c.args.buffer.now) _ c.args.headers.now c.args.spans _ c.in-Ok.read short c.requires.head.within c.requires.head.head c.in-Bytes.ensures.answer c.in-Cut.is c.in-Ok.ensures.tells

pub returns-in-Whole-clause-within : goal.returns-in-Whole-clause-within
returns-in-Whole-clause-within g c =
    let size = subst (HasSize c.in-Bytes.length) c.in-Whole.is c.in-Ok.ensures.size in
    record {
      fits = c.requires.head.fits;
      within = c.requires.head.within;
      body = omega (arith, size, body_most _ c.in-Bytes.length c.in-Bytes.ensures.answer);
    }

pub returns-in-Whole-clause-kind : goal.returns-in-Whole-clause-kind
returns-in-Whole-clause-kind g c =
    let short : length (take c.args.count c.args.buffer.now) ≤ 8192 = grind (arith, common_steps) in
    whole_by (take c.args.count c.args.buffer.now) _ c.args.headers.now c.args.spans c.in-Bytes.length c.in-Whole.body.items short c.requires.head.within c.requires.head.head c.in-Bytes.ensures.answer
    (λ rest e. subst (TellsBody c.in-Bytes.length rest) c.in-Whole.is (c.in-Ok.ensures.tells rest e))
