use Rattle.http_requests.specs.Questions.{shown}
use Rattle.http_releases.proofs.Chains.{failed_over, wanting_over}
use Rattle.http_releases.proofs.answer.reply_to.Goals as goal

pub returns-in-Err-Failed : goal.returns-in-Err-Failed
returns-in-Err-Failed g c = record {
  later = c.in-Err-Failed.ensures.acts.later;
  replies = failed_over (shown c.args.asking) c.args.body.items (g.Q.Rows.view c.args.keeper.now) (g.Q.Rows.view c.answer.new.keeper) c.unavailable.result c.in-Err-Failed.field-0 c.in-Err-Failed.field-0-is
      c.in-Err-Failed.ensures.acts c.in-Err-Failed.ensures.asks c.unavailable.ensures;
}

pub returns-in-Err-Memory : goal.returns-in-Err-Memory
returns-in-Err-Memory g c = record {
  later = c.in-Err-Memory.ensures.acts.later;
  replies = wanting_over (shown c.args.asking) c.args.body.items (g.Q.Rows.view c.args.keeper.now) (g.Q.Rows.view c.answer.new.keeper) c.no_memory.result c.in-Err-Memory.field-0
      c.in-Err-Memory.ensures.acts c.no_memory.ensures;
}
