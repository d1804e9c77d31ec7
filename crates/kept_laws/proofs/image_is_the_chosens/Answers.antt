use Rattle.kept_laws.proofs.Says.{image_is_the_chosens as law}
use Rattle.kept_laws.proofs.image_is_the_chosens.Goals as goal

pub returns : goal.returns
returns c = law
