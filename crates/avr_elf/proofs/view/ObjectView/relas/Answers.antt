use Rattle.std.proofs.Common.{◌≡◌, length, sym, arith}
use Rattle.avr_elf.specs.Header.{section_count}
use Rattle.avr_elf.specs.Object.{section_of}
use Rattle.avr_elf.proofs.Lists.{length-list_of}
use Rattle.avr_elf.proofs.ObjectLemmas.{relas_at-object_of}
use Rattle.avr_elf.proofs.view.ObjectView.relas.Goals as goal

pub relas_of-requires-clause-inside : goal.relas_of-requires-clause-inside
relas_of-requires-clause-inside c =
    let n : length c.args.self.now.sections ≡ section_count c.self.inside.file.now = rw (← c.self.view_is) (length-list_of (section_of c.self.inside.file.now) _) in
    omega arith

pub returns : goal.returns
returns c =
    rw (← c.self.view_is, c.relas_of.ensures) (sym (relas_at-object_of c.self.inside.file.now c.args.section (relas_of-requires-clause-inside c.before)))
