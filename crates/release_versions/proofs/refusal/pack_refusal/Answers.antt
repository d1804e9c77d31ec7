use Rattle.std.proofs.Common.{Some, ap}
use Rattle.object_packer.specs.declared.fault.PackFault.{PackFault}
use Rattle.release_versions.proofs.refusal.pack_refusal.Goals as goal

pub size_refusal-requires : goal.size_refusal-requires
size_refusal-requires c = c.requires c.in-Size.total (ap (λ (f : PackFault). Some f) c.in-Size.is)
