use Rattle.http_bodies.proofs.Floats.{refusal_has_none, text_of}
use Rattle.http_bodies.proofs.reply.refusal_body.Goals as goal

pub returns : goal.returns
returns c = text_of c.to_string.result _ _ c.in_ok-value.ensures (refusal_has_none c.args.refusal c.args.values.now) c.to_string.ensures.text
