use Rattle.kept_sessions.proofs.History.{numbers_rise}
use Rattle.kept_sessions.proofs.numbers_rise.Goals as goal

pub returns : goal.returns
returns c = numbers_rise
