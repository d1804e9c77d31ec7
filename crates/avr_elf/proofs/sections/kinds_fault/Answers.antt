use Rattle.std.proofs.Common.{◌<◌, sym, arith}
use Rattle.avr_elf.specs.Header.{section_count}
use Rattle.avr_elf.specs.Faults.{kind_fault}
use Rattle.avr_elf.proofs.FirstLemmas.{first_of-at}
use Rattle.avr_elf.proofs.sections.kinds_fault.Goals as goal

pub returns-in-Some : goal.returns-in-Some
returns-in-Some c =
    let lt : c.loop-i.i < section_count c.args.file.now = omega arith in
    sym (first_of-at (kind_fault c.args.file.now) _ c.loop-i.i c.in-Some.fault lt c.loop-i.invariant (sym c.in-Some.ensures))
