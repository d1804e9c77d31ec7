use Rattle.std.proofs.Common.{◌≡◌, None}
use Rattle.avr_elf.specs.First.{first_of}
use Rattle.object_packer.specs.Faults.{section_fault}
use Rattle.object_packer.proofs.layout.Layout.sections_fault.Given as goal

abbrev pub invariant-loop-k : goal.invariant-loop-k
invariant-loop-k l = first_of (section_fault l.self) l.k ≡ None
