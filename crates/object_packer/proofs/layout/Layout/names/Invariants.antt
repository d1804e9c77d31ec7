use Rattle.std.proofs.Common.{◌≡◌}
use Rattle.object_packer.specs.Names.{names_before}
use Rattle.object_packer.proofs.layout.Layout.names.Given as goal

abbrev pub invariant-loop-i : goal.invariant-loop-i
invariant-loop-i l = l.table ≡ names_before l.self l.i
