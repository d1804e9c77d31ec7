use Rattle.kept_laws.proofs.Counts.{each_image_counts as law}
use Rattle.kept_laws.proofs.each_image_counts.Goals as goal

pub returns : goal.returns
returns c = law
