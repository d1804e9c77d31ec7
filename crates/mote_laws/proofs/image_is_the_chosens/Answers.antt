use Rattle.mote_laws.proofs.Words.{image_is_the_chosens}
use Rattle.mote_laws.proofs.image_is_the_chosens.Goals as goal

pub returns : goal.returns
returns c = image_is_the_chosens
