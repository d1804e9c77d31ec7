use Rattle.std.proofs.Common.{◌∙◌}
use Rattle.http_bodies.proofs.Pairs.{no_pair}
use Rattle.http_bodies.proofs.parts.pair_of.Goals as goal

pub returns-then-len-ne2 : goal.returns-then-len-ne2
returns-then-len-ne2 c =
    let pair = c.in_ok-items.items.now in
    no_pair _ pair.items c.in_ok-items.ensures (λ two. c.if-len-ne2.true (c.len.ensures ∙ (pair.ok.0 ∙ two)))
