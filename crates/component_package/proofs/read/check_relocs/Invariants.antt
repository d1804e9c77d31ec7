use Rattle.std.proofs.Common.{◌≡◌, None}
use Rattle.component_package.specs.packages.Reading.{reloc_fault, reloc_before, first_fault}
use Rattle.component_package.proofs.read.check_relocs.Given as goal

-- no relocation so far has a fault, and the last one is kept
abbrev pub invariant-loop-i : goal.invariant-loop-i
invariant-loop-i l = record { none : first_fault (reloc_fault l.bytes) l.i ≡ None; before : l.before ≡ reloc_before l.bytes l.i }
