use Rattle.std.proofs.Common.{◌≡◌, ℕ, Option, get_or, sym, ap, ◌∙◌, arith, List, ◌++◌, ◌∷◌, [], map, take}
use Rattle.std.proofs.lemmas.List.{map_more}
use Rattle.release_rows.specs.Tables.{symbol_number}
use Rattle.release_rows.specs.View.{View}
use Rattle.release_judging.proofs.Chain.{calm}
use Rattle.release_versions.proofs.Named.{name_is}
use Rattle.release_versions.proofs.numbers.known_numbers.Goals as goal

pub loop-i-preserved : goal.loop-i-preserved
loop-i-preserved g c =
    let ns = c.args.names.now in
    let i : ℕ = c.loop-i.i in
    let before = c.loop-i.invariant in
    let at = c.in_ok-symbol_number.ensures in
    let same = calm c.in_ok-symbol_number.field-0 (g.R.Rows.view c.loop-i.rows) (g.R.Rows.view c.symbol_number.new.self) at.reads in
    let name : get_or ns i [] ≡ c.name.result.now = name_is ns i c.name.result.now c.name.ensures in (
      same ∙ before.0,
      grind (arith, before.1, c.in_ok-push.ensures.len),
      λ t told.
          c.in_ok-push.ensures.items
          ∙ ap (λ (out : List (Option ℕ)). out ++ c.in_ok-symbol_number.field-0 ∷ []) (before.2 t told)
          ∙ ap (λ (o : Option ℕ). map (symbol_number t) (take i ns) ++ o ∷ []) (at.row t (ap (λ (v : View). v.tables) before.0 ∙ told) ∙ ap (symbol_number t) (sym name))
          ∙ sym (map_more (symbol_number t) ns i [] (omega (arith, c.loop-i-test.true, c.len-i-end.ensures))),
    )
