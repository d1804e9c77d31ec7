use Rattle.link_laws.proofs.Own.{image_exists, image_one}
use Rattle.link_laws.proofs.image_exists_once.Goals as goal

pub returns : goal.returns
returns c = record { exists = image_exists; one = image_one; none = λ set cause b refused is. let possible = is.possible in cc }
