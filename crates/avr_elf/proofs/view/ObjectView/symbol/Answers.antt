use Rattle.std.proofs.Common.{◌≡◌, ◌∙◌, ◌/◌, Some, length, sym, ap, arith}
use Rattle.std.specs.Prelude.{slice_get}
use Rattle.avr_elf.specs.Header.{header_of}
use Rattle.avr_elf.specs.Section.{symtab_of}
use Rattle.avr_elf.specs.Object.{symbol_of, symbols_of}
use Rattle.avr_elf.proofs.Lists.{length-list_of, slice_get-list_of}
use Rattle.avr_elf.proofs.view.ObjectView.symbol.Goals as goal

pub symbol_of-requires-clause-inside : goal.symbol_of-requires-clause-inside
symbol_of-requires-clause-inside c =
    let file = c.self.inside.file.now in
    let only : symtab_of file ≡ Some c.in-Some.t = sym c.self.invariant.only ∙ c.in-Some.is in
    let n : length c.args.self.now.symbols ≡ (header_of file c.in-Some.t).size / 16 =
    rw (← c.self.view_is) (ap (λ t. length (symbols_of file t)) only ∙ length-list_of (symbol_of file (header_of file c.in-Some.t)) _) in
    omega arith

pub returns : goal.returns
returns c =
    let file = c.self.inside.file.now in
    let only : symtab_of file ≡ Some c.in-Some.t = sym c.self.invariant.only ∙ c.in-Some.is in
    rw (← c.self.view_is, c.symbol_of.ensures)
    (ap (λ t. slice_get (symbols_of file t) c.args.i) only ∙ slice_get-list_of (symbol_of file (header_of file c.in-Some.t)) _ c.args.i (symbol_of-requires-clause-inside c.before))
