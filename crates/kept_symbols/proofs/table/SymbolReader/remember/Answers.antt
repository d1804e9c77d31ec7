use Rattle.std.proofs.Common.{◌≡◌, ℕ, ◌*◌, ◌/◌, inl, inr, Some, ap, ◌∙◌, arith}
use Rattle.std.proofs.lemmas.Option.{same_Some}
use Rattle.component_store.proofs.OpenLemmas.{set_or_kept}
use Rattle.kept_symbols.specs.Lookup.{symbol_in}
use Rattle.kept_symbols.proofs.table.SymbolReader.remember.Goals as goal

pub returns-then-i-eq0 : goal.returns-then-i-eq0
returns-then-i-eq0 c = λ s keeps is.
    let i : ℕ = c.args.i in
    let symbol : ℕ = c.args.symbol in
    record {
      page = keeps.page;
      firsts = λ p first at rs tells.
          elim (set_or_kept c.args.self.now.firsts (i / 32) p (Some symbol) (Some first) at) [
            | inl here ↦ let e : i ≡ 32 * p = omega (arith, here.0, c.if-i-eq0.true) in same_Some first symbol here.1 ∙ is rs tells ∙ ap (symbol_in rs) e
            | inr other ↦ keeps.firsts p first other.1 rs tells
          ];
    }
