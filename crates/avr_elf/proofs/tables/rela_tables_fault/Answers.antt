use Rattle.std.proofs.Common.{◌<◌, sym, arith}
use Rattle.avr_elf.specs.Header.{section_count}
use Rattle.avr_elf.specs.Faults.{rela_table_fault}
use Rattle.avr_elf.proofs.FirstLemmas.{first_of-at, first_of-more}
use Rattle.avr_elf.proofs.Sound.{marks-more}
use Rattle.avr_elf.proofs.tables.rela_tables_fault.Goals as goal

pub returns-in-Some : goal.returns-in-Some
returns-in-Some c =
    let lt : c.loop-r.r < section_count c.args.file.now = omega arith in
    sym (first_of-at (rela_table_fault c.args.file.now) _ c.loop-r.r c.in-Some.fault lt c.loop-r.invariant.none (sym c.in-Some.ensures))

pub loop-r-preserved : goal.loop-r-preserved
loop-r-preserved c =
    record {
      none = first_of-more (rela_table_fault c.args.file.now) c.loop-r.r c.loop-r.invariant.none (sym c.in_default.ensures);
      room = omega arith;
      marks = λ k lt.
          marks-more c.args.file.now c.loop-r.r k _ _ c.header-table.result c.header-table.ensures (c.loop-r.invariant.marks k lt) (c.mark_patched.ensures k (omega arith));
    }
