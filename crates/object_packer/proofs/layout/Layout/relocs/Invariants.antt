use Rattle.std.proofs.Common.{◌≡◌, map, take}
use Rattle.object_packer.specs.Names.{number_in}
use Rattle.object_packer.specs.Packed.{reloc_of}
use Rattle.object_packer.proofs.layout.Layout.relocs.Given as goal

abbrev pub invariant-loop-x : goal.invariant-loop-x
invariant-loop-x l = l.out.items ≡ map (reloc_of l.self (number_in l.names l.numbers)) (take l.x-index l.kept)
