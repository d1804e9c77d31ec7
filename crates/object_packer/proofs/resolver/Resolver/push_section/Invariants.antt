use Rattle.std.proofs.Common.{◌≡◌, ◌++◌, None}
use Rattle.std.specs.List.{flat_map, range_with_len}
use Rattle.std.specs.Option.{option_to_list}
use Rattle.avr_elf.specs.First.{first_of}
use Rattle.object_packer.specs.Relocations.{kept_at}
use Rattle.object_packer.specs.Faults.{entry_fault}
use Rattle.object_packer.proofs.resolver.Resolver.push_section.Given as goal

abbrev pub invariant-loop-i : goal.invariant-loop-i
invariant-loop-i l = record {
  none : first_of (entry_fault l.self l.s.index) l.i ≡ None;
  kept : l.out.items ≡ l.initial.out.items ++ flat_map (λ i. option_to_list (kept_at l.self l.s.index l.s.home i)) (range_with_len 0 l.i);
}
