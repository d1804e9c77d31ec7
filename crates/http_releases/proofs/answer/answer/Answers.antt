use Rattle.std.proofs.Common.{ap}
use Rattle.http_requests.specs.Questions.{not_found, wrong_method, malformed, shown, purpose_shown}
use Rattle.http_releases.proofs.Chains.{question_as, post_over}
use Rattle.http_releases.proofs.answer.answer.Goals as goal

pub returns-in-NotFound-clause-answer : goal.returns-in-NotFound-clause-answer
returns-in-NotFound-clause-answer g c =
    question_as (shown c.args.asking) not_found c.args.body.items (g.Q.Rows.view c.args.keeper.now) (g.Q.Rows.view c.args.keeper.now) c.no_route.result (ap shown c.in-NotFound.is) (λ t told. (t, told, c.no_route.ensures t))

pub returns-in-WrongMethod-clause-answer : goal.returns-in-WrongMethod-clause-answer
returns-in-WrongMethod-clause-answer g c =
    question_as (shown c.args.asking) wrong_method c.args.body.items (g.Q.Rows.view c.args.keeper.now) (g.Q.Rows.view c.args.keeper.now) c.other_method.result (ap shown c.in-WrongMethod.is) (λ t told. (t, told, c.other_method.ensures t))

pub returns-in-Malformed-clause-answer : goal.returns-in-Malformed-clause-answer
returns-in-Malformed-clause-answer g c =
    question_as (shown c.args.asking) malformed c.args.body.items (g.Q.Rows.view c.args.keeper.now) (g.Q.Rows.view c.args.keeper.now) c.bad_request.result (ap shown c.in-Malformed.is) (λ t told. (t, told, c.bad_request.ensures t))

pub returns-in-Post-clause-answer : goal.returns-in-Post-clause-answer
returns-in-Post-clause-answer g c =
    post_over c.answer_post.result (shown c.args.asking) (purpose_shown c.in-Post.posting) c.in-Post.key.now c.in-Post.digest c.args.body.items (g.Q.Rows.view c.args.keeper.now) (g.Q.Rows.view c.answer_post.new.keeper) (ap shown c.in-Post.is) c.answer_post.ensures.answer
