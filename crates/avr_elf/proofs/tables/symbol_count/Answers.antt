use Rattle.std.proofs.Common.{◌∙◌, sym}
use Rattle.avr_elf.specs.Header.{section_count}
use Rattle.avr_elf.specs.Section.{is_symtab}
use Rattle.avr_elf.proofs.FirstLemmas.{first_index-some}
use Rattle.avr_elf.proofs.tables.symbol_count.Goals as goal

pub header-requires-clause-inside : goal.header-requires-clause-inside
header-requires-clause-inside c = (first_index-some (is_symtab c.args.file.now) (section_count c.args.file.now) c.in-Some.t (sym c.requires.symtab ∙ c.in-Some.is)).below
