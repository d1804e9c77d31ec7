use Rattle.std.proofs.Common.{◌≡◌, None}
use Rattle.avr_elf.specs.First.{first_of}
use Rattle.object_packer.specs.Names.{names_of_symbols, exported_before}
use Rattle.object_packer.specs.Faults.{symbol_fault}
use Rattle.object_packer.proofs.layout.Layout.check_symbols.Given as goal

abbrev pub invariant-loop-i : goal.invariant-loop-i
invariant-loop-i l = record {
  none : first_of (symbol_fault l.self) l.i ≡ None;
  seen : l.seen ≡ names_of_symbols l.self (exported_before l.self l.i);
}
