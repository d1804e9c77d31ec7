use Rattle.std.proofs.Common.{◌≡◌, ◌<◌, None, sym, arith}
use Rattle.avr_elf.specs.Header.{section_count}
use Rattle.avr_elf.specs.First.{first_of}
use Rattle.avr_elf.specs.Faults.{place_fault}
use Rattle.avr_elf.proofs.FirstLemmas.{first_of-at}
use Rattle.avr_elf.proofs.Sound.{are_placed}
use Rattle.avr_elf.proofs.sections.places_fault.Goals as goal

pub returns-in-Some-clause-fault : goal.returns-in-Some-clause-fault
returns-in-Some-clause-fault c =
    let lt : c.loop-i.i < section_count c.args.file.now = omega arith in
    sym (first_of-at (place_fault c.args.file.now) _ c.loop-i.i c.in-Some.fault lt c.loop-i.invariant (sym c.in-Some.ensures))

pub returns-clause-placed : goal.returns-clause-placed
returns-clause-placed c =
    let none : first_of (place_fault c.args.file.now) (section_count c.args.file.now) ≡ None =
    (let same : c.loop-i.i ≡ section_count c.args.file.now = omega arith in rw same at c.loop-i.invariant) in
    are_placed c.args.file.now none
