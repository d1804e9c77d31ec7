use Rattle.name_laws.proofs.Law.{from_names, from_packages}
use Rattle.name_laws.proofs.name_image_is_image.Goals as goal

pub returns : goal.returns
returns c = λ os f set b packable numbers are. (from_names os f set b packable numbers are, from_packages os f set b packable numbers are)
