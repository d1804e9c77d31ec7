use Rattle.std.proofs.Common.{sym, ◌∙◌}
use Rattle.http_heads.proofs.Values.{seen_other, seen_named}
use Rattle.http_heads.proofs.fields.seen.Goals as goal

pub returns-then-not-is_named : goal.returns-then-not-is_named
returns-then-not-is_named c = λ values finds. seen_other _ values _ _ (sym c.is_named.ensures ∙ c.if-not-is_named.true) finds

pub returns : goal.returns
returns c = λ values finds. seen_named _ values _ _ _ (sym c.is_named.ensures ∙ c.if-not-is_named.false) c.of.ensures (c.with.ensures values finds)
