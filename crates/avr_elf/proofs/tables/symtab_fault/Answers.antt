use Rattle.std.proofs.Common.{◌≡◌, ◌∙◌, true, sym}
use Rattle.avr_elf.specs.Header.{header_of}
use Rattle.avr_elf.specs.Faults.{has_strings}
use Rattle.avr_elf.proofs.FirstLemmas.{IfNone-from}
use Rattle.avr_elf.proofs.Sound.{are_symbols}
use Rattle.avr_elf.proofs.tables.symtab_fault.Goals as goal

pub returns-clause-symbols : goal.returns-clause-symbols
returns-clause-symbols c =
    let file = c.args.file.now in
    let strings : has_strings file (header_of file c.args.t) ≡ true = sym (rw c.header-table.ensures at c.if-not-has_strings.ensures) in
    IfNone-from c.each_symbol_fault.result _ (λ none. are_symbols file c.args.t strings c.requires.placed (rw c.header-table.ensures at (sym c.each_symbol_fault.ensures) ∙ none))
