use Rattle.http_releases.proofs.Statuses.{failed_where_said}
use Rattle.http_releases.proofs.law.unavailable_tells.Goals as goal

pub returns : goal.returns
returns c = failed_where_said
