use Rattle.http_requests.proofs.Keys.{key_text}
use Rattle.http_requests.proofs.asks.key_at.Goals as goal

pub returns-in_default-from_utf8 : goal.returns-in_default-from_utf8
returns-in_default-from_utf8 c = absurd (c.in_default-from_utf8.ensures.cases.0 (key_text _ _ c.in-Some.ensures.key))
