use Rattle.std.proofs.Common.{◌+◌, ◌/◌, ◌<◌, ◌≤◌, length, arith}
use Rattle.avr_elf.proofs.Sound.{symtab-is_table}
use Rattle.avr_elf.proofs.lookup.symbol_of.Goals as goal

pub header-table-requires-clause-inside : goal.header-table-requires-clause-inside
header-table-requires-clause-inside c = (symtab-is_table c.args.file.now c.args.t c.requires.sound.placed c.requires.symtab).below

pub overflow_add-table : goal.overflow_add-table
overflow_add-table c =
    let table = symtab-is_table c.args.file.now c.args.t c.requires.sound.placed c.requires.symtab in
    let placed : c.header-table.result.offset + c.header-table.result.size ≤ length c.args.file.now = rw c.header-table.ensures table.placed in
    let inside : c.args.i < c.header-table.result.size / 16 = rw c.header-table.ensures c.requires.inside in
    let small : length c.args.file.now ≤ 1048576 = c.requires.sound.table.small in
    omega arith

pub symbol_in-s-requires : goal.symbol_in-s-requires
symbol_in-s-requires c =
    let table = symtab-is_table c.args.file.now c.args.t c.requires.sound.placed c.requires.symtab in
    let placed : c.header-table.result.offset + c.header-table.result.size ≤ length c.args.file.now = rw c.header-table.ensures table.placed in
    let inside : c.args.i < c.header-table.result.size / 16 = rw c.header-table.ensures c.requires.inside in
    omega arith
