use Rattle.std.proofs.Common.{sym, subst}
use Rattle.avr_elf.specs.Object.{Object}
use Rattle.object_packer.specs.Faults.{pack_fault}
use Rattle.release_versions.specs.Faults.{IsFewBytes}
use Rattle.release_versions.proofs.Sizes.{few_bytes}
use Rattle.release_versions.proofs.version.judge_version.Goals as goal

pub judge_object-requires : goal.judge_object-requires
judge_object-requires g c = subst (λ (o : Object). IsFewBytes (pack_fault o)) (sym c.in-Ok.ensures.object) (few_bytes c.args.object.now c.in-Ok.ensures.meant.bytes)
