use Rattle.std.proofs.Common.{◌≡◌, None}
use Rattle.component_package.specs.packages.Reading.{export_fault, symbol_before, first_fault}
use Rattle.component_package.proofs.read.check_exports.Given as goal

-- no export so far has a fault, and the last one's symbol is kept
abbrev pub invariant-loop-i : goal.invariant-loop-i
invariant-loop-i l = record { none : first_fault (export_fault l.bytes) l.i ≡ None; before : l.before ≡ symbol_before l.bytes l.i }
