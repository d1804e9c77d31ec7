use Rattle.std.proofs.Common.{◌≡◌}
use Rattle.object_packer.specs.Names.{exported_before}
use Rattle.object_packer.proofs.layout.Layout.exported.Given as goal

abbrev pub invariant-loop-i : goal.invariant-loop-i
invariant-loop-i l = l.out.items ≡ exported_before l.self l.i
