use Rattle.std.proofs.Common.{◌∙◌}
use Rattle.http_bodies.specs.Replies.{reply_text, key_taken_reply}
use Rattle.http_replies.specs.declared.status.Status.TheVariants.{Conflict}
use Rattle.http_releases.proofs.Shown.{same_text}
use Rattle.http_releases.proofs.post.key_taken.Goals as goal

pub returns : goal.returns
returns c = same_text c.in_text.result Conflict c.of.result (reply_text (key_taken_reply c.args.digest.now)) c.in_text.ensures (c.of.ensures ∙ c.in_ok-body.ensures)
