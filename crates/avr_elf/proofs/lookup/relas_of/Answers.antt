use Rattle.std.proofs.Common.{◌+◌, ◌≤◌, length, sym, arith}
use Rattle.avr_elf.proofs.Sound.{rela_table-is_table}
use Rattle.avr_elf.proofs.lookup.relas_of.Goals as goal

pub header-table-requires-clause-inside : goal.header-table-requires-clause-inside
header-table-requires-clause-inside c = (rela_table-is_table c.args.file.now c.args.k c.in-Some.r c.requires.sound.placed (sym c.in-Some.ensures)).below

pub new-requires-in-Some : goal.new-requires-in-Some
new-requires-in-Some c =
    let table = rela_table-is_table c.args.file.now c.args.k c.in-Some.r c.requires.sound.placed (sym c.in-Some.ensures) in
    let placed : c.header-table.result.offset + c.header-table.result.size ≤ length c.args.file.now = rw c.header-table.ensures table.placed in
    record { small = c.requires.sound.table.small; within = omega (arith, placed) }
