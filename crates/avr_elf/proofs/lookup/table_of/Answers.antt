use Rattle.std.proofs.Common.{◌<◌, sym, arith}
use Rattle.avr_elf.specs.Header.{section_count}
use Rattle.avr_elf.specs.Section.{patches}
use Rattle.avr_elf.proofs.FirstLemmas.{first_index-at}
use Rattle.avr_elf.proofs.lookup.table_of.Goals as goal

pub returns-then-patches : goal.returns-then-patches
returns-then-patches c =
    let lt : c.loop-i.i < section_count c.args.file.now = omega arith in
    sym (first_index-at (patches c.args.file.now c.args.k) _ c.loop-i.i lt c.loop-i.invariant (sym c.if-patches.ensures))
