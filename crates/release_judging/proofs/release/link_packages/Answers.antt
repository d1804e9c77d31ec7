use Rattle.release_judging.proofs.Linkable.{linkable}
use Rattle.release_judging.proofs.release.link_packages.Goals as goal

pub link-requires : goal.link-requires
link-requires c = linkable c.args._parts.now c.args.packages.now c.requires.packages c.requires.parts
