use Rattle.std.proofs.Common.{sym}
use Rattle.avr_elf.specs.Faults.{symbol_fault}
use Rattle.avr_elf.proofs.FirstLemmas.{first_of-at}
use Rattle.avr_elf.proofs.tables.each_symbol_fault.Goals as goal

pub returns-in-Some : goal.returns-in-Some
returns-in-Some c =
    sym (first_of-at (symbol_fault c.args.file.now c.args.table.now) _ c.loop-i.i c.in-Some.fault c.loop-i-test.true c.loop-i.invariant (sym c.in-Some.ensures))
