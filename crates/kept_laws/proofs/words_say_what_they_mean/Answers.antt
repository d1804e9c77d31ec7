use Rattle.kept_laws.proofs.Says.{words_say_what_they_mean as law}
use Rattle.kept_laws.proofs.words_say_what_they_mean.Goals as goal

pub returns : goal.returns
returns c = law
