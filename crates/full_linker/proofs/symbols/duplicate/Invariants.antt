use Rattle.std.proofs.Common.{◌≡◌}
use Rattle.component_package.specs.link.Link.{first_cause}
use Rattle.full_linker.proofs.Least.{twice_at}
use Rattle.full_linker.proofs.symbols.duplicate.Given as goal

abbrev pub invariant-loop-symbol : goal.invariant-loop-symbol
invariant-loop-symbol l = first_cause twice_at l.symbol-iterator ≡ first_cause twice_at l.slots.entries
