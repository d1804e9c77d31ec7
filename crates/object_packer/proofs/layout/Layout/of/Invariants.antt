use Rattle.std.proofs.Common.{◌≡◌, ℕ, ◌+◌, ◌*◌, ◌<◌, ◌^◌, Some}
use Rattle.avr_elf.specs.First.{list_of}
use Rattle.object_packer.specs.declared.layout.Home.{Home}
use Rattle.object_packer.specs.Parts.{home_of}
use Rattle.object_packer.specs.Layout.{lengths_before, AreBelow}
use Rattle.object_packer.proofs.layout.Layout.of.Given as goal

abbrev pub invariant-loop-k : goal.invariant-loop-k
invariant-loop-k l = record {
  homes : l.homes.items ≡ list_of (home_of l.object) l.k;
  lengths : l.lengths ≡ lengths_before l.object l.k;
  short : AreBelow (1 + l.k * 2 ^ 33) l.lengths;
  small : (k : ℕ) (home : Home) → k < l.k → home_of l.object k ≡ Some home → home.start < 2 ^ 50;
}
