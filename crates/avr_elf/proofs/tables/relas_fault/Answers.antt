use Rattle.std.proofs.Common.{sym}
use Rattle.avr_elf.specs.Faults.{rela_fault}
use Rattle.avr_elf.proofs.FirstLemmas.{first_of-at}
use Rattle.avr_elf.proofs.tables.relas_fault.Goals as goal

pub returns-in-Some : goal.returns-in-Some
returns-in-Some c =
    sym (first_of-at (rela_fault c.args.file.now c.args.table.now c.args.size c.args.symbols) _ c.loop-i.i c.in-Some.fault c.loop-i-test.true c.loop-i.invariant (sym c.in-Some.ensures))
