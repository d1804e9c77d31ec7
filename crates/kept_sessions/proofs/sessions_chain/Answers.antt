use Rattle.kept_sessions.proofs.Chains.{sessions_chain}
use Rattle.kept_sessions.proofs.sessions_chain.Goals as goal

pub returns : goal.returns
returns c = sessions_chain
