use Rattle.object_packer.specs.Faults.{pack_fault}
use Rattle.release_versions.proofs.Sizes.{said_few}
use Rattle.release_versions.proofs.version.judge_object.Goals as goal

pub pack_refusal-requires : goal.pack_refusal-requires
pack_refusal-requires g c = said_few c.in-Err.fault (pack_fault c.args.object.now) c.in-Err.ensures.fault c.requires
