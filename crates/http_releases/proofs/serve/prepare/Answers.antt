use Rattle.std.proofs.Common.{subst}
use Rattle.http_requests.specs.Taken.{TellsKind, request_in}
use Rattle.http_requests.specs.Questions.{Question}
use Rattle.http_releases.specs.Due.{of_no_head, of_bad_head, of_large, of_no_memory}
use Rattle.http_releases.specs.Replies.{RepliesOver}
use Rattle.http_releases.proofs.Dues.{whole_prepared}
use Rattle.http_releases.proofs.serve.prepare.Goals as goal

pub returns-in-Whole-clause-prepared : goal.returns-in-Whole-clause-prepared
returns-in-Whole-clause-prepared g c = λ input tells t told.
    whole_prepared input (request_in c.args.buffer.now c.args.headers.now c.in-Whole.whole) t (g.Q.Rows.view c.args.keeper.now) (g.Q.Rows.view c.reply_to.new.keeper) c.reply_to.result
    (subst (TellsKind input c.args.buffer.now c.args.headers.now) c.in-Whole.is tells)
    (subst (λ (q : Question). RepliesOver q c.in-Whole.whole.body.items (g.Q.Rows.view c.args.keeper.now) (g.Q.Rows.view c.reply_to.new.keeper) c.reply_to.result) c.ask-asking.ensures.question c.reply_to.ensures.replies)
    told

pub returns-in-NoHead-clause-prepared : goal.returns-in-NoHead-clause-prepared
returns-in-NoHead-clause-prepared g c = λ input tells t told.
    (t, record { due = of_no_head (subst (TellsKind input c.args.buffer.now c.args.headers.now) c.in-NoHead.is tells) (c.bad_request.ensures t); tables = told })

pub returns-in-BadHead-clause-prepared : goal.returns-in-BadHead-clause-prepared
returns-in-BadHead-clause-prepared g c = λ input tells t told.
    (t, record { due = of_bad_head (subst (TellsKind input c.args.buffer.now c.args.headers.now) c.in-BadHead.is tells) (c.bad_request-in-BadHead.ensures t); tables = told })

pub returns-in-TooLarge-clause-prepared : goal.returns-in-TooLarge-clause-prepared
returns-in-TooLarge-clause-prepared g c = λ input tells t told.
    (t, record { due = of_large (subst (TellsKind input c.args.buffer.now c.args.headers.now) c.in-TooLarge.is tells) (c.large_body.ensures t); tables = told })

pub returns-in-NoRoom-clause-prepared : goal.returns-in-NoRoom-clause-prepared
returns-in-NoRoom-clause-prepared g c = λ input tells t told.
    (t, record { due = of_no_memory (c.no_memory.ensures t); tables = told })
