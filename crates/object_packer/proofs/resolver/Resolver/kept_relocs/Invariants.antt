use Rattle.std.proofs.Common.{◌≡◌, None}
use Rattle.std.specs.List.{flat_map, range_with_len}
use Rattle.avr_elf.specs.First.{first_of}
use Rattle.object_packer.specs.Relocations.{kept_in}
use Rattle.object_packer.specs.Faults.{relas_fault}
use Rattle.object_packer.proofs.resolver.Resolver.kept_relocs.Given as goal

abbrev pub invariant-loop-k : goal.invariant-loop-k
invariant-loop-k l = record {
  none : first_of (relas_fault l.self) l.k ≡ None;
  kept : l.out.items ≡ flat_map (kept_in l.self) (range_with_len 0 l.k);
}
