use Rattle.std.proofs.Common.{◌≡◌, ◌∙◌, true, sym}
use Rattle.avr_elf.specs.Header.{names_index, header_of}
use Rattle.avr_elf.specs.Section.{is_string_table}
use Rattle.avr_elf.proofs.FirstLemmas.{IfNone-from}
use Rattle.avr_elf.proofs.Sound.{are_named}
use Rattle.avr_elf.proofs.sections.names_fault.Goals as goal

pub returns-clause-named : goal.returns-clause-named
returns-clause-named c =
    let file = c.args.file.now in
    let strings : is_string_table file (header_of file (names_index file)) ≡ true = sym (rw (c.header-strings.ensures, c.names_section-index.ensures) at c.if-not-is_string_table.ensures) in
    IfNone-from c.each_name_fault.result _ (λ none. are_named file strings c.requires.names c.requires.placed (sym c.each_name_fault.ensures ∙ none))
