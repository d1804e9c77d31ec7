use Rattle.std.proofs.Common.{rules, ◌≡◌, Bool, true, false, sym, ap, ◌∙◌}
use Rattle.avr_elf.specs.Object.{SymbolParts}
use Rattle.avr_elf.specs.View.{symbol_parts}
use Rattle.object_packer.specs.Names.{needs, needs_number, names_before, is_used}
use Rattle.object_packer.specs.NameTable.{with_name}
use Rattle.object_packer.proofs.Exports.{names_yes, names_no}
use Rattle.object_packer.proofs.layout.Layout.add_name.Goals as goal

pub returns-then-not-needs : goal.returns-then-not-needs
returns-then-not-needs c =
    let o = c.args.self.now in
    let no : c.needs.result ≡ false = search rules in
    let not_needed : needs_number o c.args.i ≡ false =
    (ap (λ (s : SymbolParts). needs o s (is_used o c.args.i)) (sym c.symbol-s.ensures) ∙ ap (λ (b : Bool). needs o (symbol_parts c.symbol-s.result) b) (sym c.requires.used) ∙ sym c.needs.ensures ∙ no) in
    c.requires.before ∙ sym (names_no o c.args.i not_needed)

pub returns : goal.returns
returns c =
    let o = c.args.self.now in
    let some : c.needs.result ≡ true = c.if-not-needs.false in
    let needed : needs_number o c.args.i ≡ true =
    (ap (λ (s : SymbolParts). needs o s (is_used o c.args.i)) (sym c.symbol-s.ensures) ∙ ap (λ (b : Bool). needs o (symbol_parts c.symbol-s.result) b) (sym c.requires.used) ∙ sym c.needs.ensures ∙ some) in
    c.in_ok-add.ensures.names ∙ ap (λ ns. with_name ns c.symbol-s.result.name.now) c.requires.before ∙ ap (λ (s : SymbolParts). with_name (names_before o c.args.i) s.name) c.symbol-s.ensures
    ∙ sym (names_yes o c.args.i needed)
