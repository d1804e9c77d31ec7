use Rattle.std.proofs.Common.{rules, ◌≡◌, ℕ, Bool, true, false, List, [], ◌∷◌, ◌++◌, cond, sym, ap, ◌∙◌, bytes_eq, refl}
use Rattle.std.specs.Prelude.{not}
use Rattle.std.specs.List.{list_any}
use Rattle.avr_elf.specs.Object.{SymbolParts}
use Rattle.object_packer.specs.Names.{is_export, is_exported, exported_before, names_of_symbols}
use Rattle.object_packer.specs.NameTable.{with_name}
use Rattle.object_packer.proofs.Exports.{exported_yes, exported_no}
use Rattle.object_packer.proofs.layout.Layout.see_symbol.Goals as goal

pub returns-then-not-is_export-clause-seen : goal.returns-then-not-is_export-clause-seen
returns-then-not-is_export-clause-seen c =
    let o = c.args.self.now in
    let no : c.is_export.result ≡ false = search rules in
    let not_exported : is_exported o c.args.i ≡ false = ap (is_export o) (sym c.symbol-s.ensures) ∙ sym c.is_export.ensures ∙ no in
    c.requires.seen ∙ sym (exported_no o c.args.i not_exported)

-- a name that was not there
new_name : (ns : List (List ℕ)) (n : List ℕ) → list_any (λ m. bytes_eq m n) ns ≡ false → with_name ns n ≡ ns ++ n ∷ []
new_name ns n e = ap (λ b. cond b ns (ns ++ n ∷ [])) e

not_true : (b c : Bool) → b ≡ not c → b ≡ true → c ≡ false
not_true b true e t = sym t ∙ e
not_true b false e t = refl

pub returns-clause-seen : goal.returns-clause-seen
returns-clause-seen c =
    let o = c.args.self.now in
    let some : c.is_export.result ≡ true = search rules in
    let is : is_exported o c.args.i ≡ true = ap (is_export o) (sym c.symbol-s.ensures) ∙ sym c.is_export.ensures ∙ some in
    let absent : list_any (λ m. bytes_eq m c.symbol-s.result.name.now) c.args.seen.now ≡ false = not_true c.in_ok-add.field-0 _ c.in_ok-add.ensures.answer c.if-not-branch.false in
    c.in_ok-add.ensures.names ∙ new_name c.args.seen.now c.symbol-s.result.name.now absent ∙ ap (λ ns. ns ++ c.symbol-s.result.name.now ∷ []) c.requires.seen
    ∙ ap (λ (s : SymbolParts). names_of_symbols o (exported_before o c.args.i) ++ s.name ∷ []) c.symbol-s.ensures ∙ sym (exported_yes o c.args.i is)
