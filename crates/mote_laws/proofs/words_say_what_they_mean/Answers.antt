use Rattle.mote_laws.proofs.Words.{words_say_what_they_mean}
use Rattle.mote_laws.proofs.words_say_what_they_mean.Goals as goal

pub returns : goal.returns
returns c = words_say_what_they_mean
