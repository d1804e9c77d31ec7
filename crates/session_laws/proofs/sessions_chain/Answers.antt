use Rattle.session_laws.proofs.Chains.{sessions_chain}
use Rattle.session_laws.proofs.sessions_chain.Goals as goal

pub returns : goal.returns
returns c = sessions_chain
