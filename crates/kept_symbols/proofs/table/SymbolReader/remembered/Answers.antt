use Rattle.std.proofs.Common.{◌≡◌, ℕ, ◌*◌, ◌/◌, ap, ◌∙◌, arith}
use Rattle.kept_symbols.specs.Lookup.{symbol_in}
use Rattle.kept_symbols.proofs.Readers.{first_said}
use Rattle.kept_symbols.proofs.table.SymbolReader.remembered.Goals as goal

pub returns-then-i-eq0 : goal.returns-then-i-eq0
returns-then-i-eq0 c =
    let i : ℕ = c.args.i in
    let first : 32 * (i / 32) ≡ i = omega (arith, c.if-i-eq0.true) in
    first_said c.args.self.now.firsts (i / 32) _ (λ n at s keeps rs tells. keeps.firsts (i / 32) n at rs tells ∙ ap (symbol_in rs) first)
