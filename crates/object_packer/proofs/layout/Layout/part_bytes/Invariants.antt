use Rattle.std.proofs.Common.{◌≡◌, take}
use Rattle.std.specs.List.{flat_map}
use Rattle.object_packer.specs.Parts.{bytes_in}
use Rattle.object_packer.proofs.layout.Layout.part_bytes.Given as goal

abbrev pub invariant-loop-k : goal.invariant-loop-k
invariant-loop-k l = l.out.items ≡ flat_map (bytes_in l.place) (take l.k l.self.sections)
