use Rattle.std.proofs.Common.{◌∙◌, sym}
use Rattle.std.proofs.lemmas.Bool.{eqb-true}
use Rattle.avr_elf.specs.Header.{section_count}
use Rattle.avr_elf.specs.Section.{is_symtab}
use Rattle.avr_elf.proofs.FirstLemmas.{first_index-some}
use Rattle.avr_elf.proofs.tables.symbols_fault.Goals as goal

pub symtab_fault-requires-clause-inside : goal.symtab_fault-requires-clause-inside
symtab_fault-requires-clause-inside c =
    (first_index-some (is_symtab c.args.file.now) (section_count c.args.file.now) c.in-Some.t (sym c.requires.symtab ∙ c.in-Some.is)).below

pub symtab_fault-requires-clause-kind : goal.symtab_fault-requires-clause-kind
symtab_fault-requires-clause-kind c =
    eqb-true _ _ (first_index-some (is_symtab c.args.file.now) (section_count c.args.file.now) c.in-Some.t (sym c.requires.symtab ∙ c.in-Some.is)).passes
