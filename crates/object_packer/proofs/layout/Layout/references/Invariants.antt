use Rattle.std.proofs.Common.{◌≡◌, ℕ, ◌<◌, ◌^◌}
use Rattle.avr_elf.specs.First.{list_of}
use Rattle.object_packer.specs.References.{reference_of}
use Rattle.object_packer.proofs.layout.Layout.references.Given as goal

abbrev pub invariant-loop-i : goal.invariant-loop-i
invariant-loop-i l = record {
  are : l.references.items ≡ list_of (reference_of l.self) l.i;
  small : (i : ℕ) → i < l.i → (reference_of l.self i).value < 2 ^ 51;
}
