use Rattle.server_loop.proofs.Chains.{counted}
use Rattle.server_loop.proofs.law.failures_are_counted.Goals as goal

pub returns : goal.returns
returns c = counted c.unavailable_tells.ensures
