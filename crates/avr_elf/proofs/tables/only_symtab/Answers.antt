use Rattle.std.proofs.Common.{◌≡◌, ◌∙◌, ◌<◌, true, sym, arith}
use Rattle.std.specs.Prelude.{is_some}
use Rattle.avr_elf.specs.Header.{section_count, header_of}
use Rattle.avr_elf.specs.Faults.{second_symtab_fault}
use Rattle.avr_elf.proofs.FirstLemmas.{first_of-at}
use Rattle.avr_elf.proofs.Sound.{second_symtab-at}
use Rattle.avr_elf.proofs.tables.only_symtab.Goals as goal

pub returns-then-is_some-clause-fault : goal.returns-then-is_some-clause-fault
returns-then-is_some-clause-fault c =
    let file = c.args.file.now in
    let lt : c.loop-i.i < section_count file = omega arith in
    let kind : (header_of file c.loop-i.i).kind ≡ 2 = rw c.header.ensures at c.if-header-eq-SYMTAB.true in
    let some : is_some c.loop-i.found ≡ true = sym c.is_some.ensures ∙ c.if-is_some.true in
    let here = second_symtab-at file c.loop-i.i c.loop-i.found c.loop-i.invariant.found kind some in
    rw c.header_offset.ensures (sym (first_of-at (second_symtab_fault file) _ c.loop-i.i _ lt c.loop-i.invariant.none here))
