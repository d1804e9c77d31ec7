use Rattle.std.proofs.Common.{◌≡◌, map, take}
use Rattle.object_packer.specs.Names.{number_in}
use Rattle.object_packer.specs.Packed.{export_of}
use Rattle.object_packer.proofs.layout.Layout.exports.Given as goal

abbrev pub invariant-loop-i : goal.invariant-loop-i
invariant-loop-i l = l.out.items ≡ map (export_of l.self (number_in l.names l.numbers)) (take l.i-index l.symbols)
