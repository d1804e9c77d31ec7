use Rattle.release_laws.proofs.Served.{served_images_are_name_images}
use Rattle.release_laws.proofs.served_images_are_name_images.Goals as goal

pub returns : goal.returns
returns c = served_images_are_name_images
