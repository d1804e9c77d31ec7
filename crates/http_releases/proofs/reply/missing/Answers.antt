use Rattle.std.proofs.Common.{[]}
use Rattle.http_replies.specs.declared.status.Status.TheVariants.{NotFound}
use Rattle.release_rules.specs.Machine.{refusal_text}
use Rattle.http_releases.proofs.Shown.{same_text}
use Rattle.http_releases.proofs.reply.missing.Goals as goal

pub returns : goal.returns
returns c = same_text c.in_text.result NotFound c.in_ok-text.text (refusal_text 2 []) c.in_text.ensures c.in_ok-text.ensures
