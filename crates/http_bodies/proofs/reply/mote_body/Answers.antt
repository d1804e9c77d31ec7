use Rattle.http_bodies.proofs.Floats.{mote_has_none, text_of}
use Rattle.http_bodies.proofs.reply.mote_body.Goals as goal

pub returns : goal.returns
returns c =
    text_of c.to_string.result _ _ c.in_ok-value.ensures (mote_has_none c.args.acknowledged c.args.parts.now c.args.mote.now c.args.release)
    c.to_string.ensures.text
