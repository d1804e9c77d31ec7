use Rattle.std.proofs.Common.{◌≡◌, length, arith}
use Rattle.avr_elf.specs.Header.{section_count}
use Rattle.avr_elf.specs.Object.{section_of}
use Rattle.avr_elf.proofs.Lists.{length-list_of, slice_get-list_of}
use Rattle.avr_elf.proofs.view.ObjectView.section.Goals as goal

pub section_of-requires-clause-inside : goal.section_of-requires-clause-inside
section_of-requires-clause-inside c =
    let n : length c.args.self.now.sections ≡ section_count c.self.inside.file.now = rw (← c.self.view_is) (length-list_of (section_of c.self.inside.file.now) _) in
    omega arith

pub returns : goal.returns
returns c =
    rw (← c.self.view_is, c.section_of.ensures) (slice_get-list_of (section_of c.self.inside.file.now) _ c.args.i (section_of-requires-clause-inside c.before))
