use Rattle.http_requests.proofs.Agreement.{kinds}
use Rattle.http_requests.proofs.law.kinds_agree.Goals as goal

pub returns : goal.returns
returns c = kinds c.heads_differ.ensures
