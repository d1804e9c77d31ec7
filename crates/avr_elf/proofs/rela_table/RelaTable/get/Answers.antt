use Rattle.std.proofs.Common.{◌≡◌, ◌+◌, ◌*◌, ℕ, length, arith}
use Rattle.avr_elf.specs.Entry.{rela_entry}
use Rattle.avr_elf.proofs.Lists.{length-list_of, slice_get-list_of}
use Rattle.avr_elf.proofs.rela_table.RelaTable.get.Goals as goal

pub entry-requires-clause-inside : goal.entry-requires-clause-inside
entry-requires-clause-inside c =
    let n : length c.args.self.now ≡ c.self.inside.count = rw (← c.self.view_is) (length-list_of _ c.self.inside.count) in
    omega arith

pub returns : goal.returns
returns c =
    rw (← c.self.view_is, c.entry.ensures) (slice_get-list_of (λ (i : ℕ). rela_entry c.self.inside.file.now (c.self.inside.offset + 12 * i)) _ c.args.i (entry-requires-clause-inside c.before))
