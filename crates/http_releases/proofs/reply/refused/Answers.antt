use Rattle.http_replies.specs.declared.status.Status.TheVariants.{UnprocessableEntity}
use Rattle.release_rules.specs.Machine.{refusal_text}
use Rattle.http_releases.proofs.Shown.{same_text}
use Rattle.http_releases.proofs.reply.refused.Goals as goal

pub returns : goal.returns
returns c = same_text c.in_text.result UnprocessableEntity c.in_ok-text.text (refusal_text c.args.number c.args.values.now) c.in_text.ensures c.in_ok-text.ensures
