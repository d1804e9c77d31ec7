use Rattle.std.proofs.Common.{◌≡◌, ℕ, ◌+◌, List, [], ◌∷◌, ◌++◌, length, take, get_or, sym, subst, arith}
use Rattle.std.proofs.lemmas.List.{take_more}
use Rattle.sqlite_value.specs.Order.{Row}
use Rattle.release_rows.specs.declared.part.Numbered.{Numbered}
use Rattle.sqlite_keeper.specs.Stored.{IsPartIn, ArePartsFrom}
use Rattle.sqlite_keeper.proofs.Stored.{parts_push}
use Rattle.sqlite_keeper.proofs.values.parts_in.Goals as goal

pub loop-row-preserved : goal.loop-row-preserved
loop-row-preserved c =
    let rows = c.args.rows.now in
    let i = c.loop-row.row-index in
    let r = c.row-item.result in
    let ps = c.loop-row.parts.items in
    let p = c.in_ok-part.part in
    let read = subst (λ (row : Row). IsPartIn row c.len.result p) c.row-item.is c.in_ok-part.ensures in
    let e : c.len.result ≡ 0 + length ps = omega (arith, c.len.ensures) in
    let is = subst (λ (k : ℕ). IsPartIn (get_or rows i r) k p) e read in
    subst (λ (qs : List Numbered). ArePartsFrom 0 (take (i + 1) rows) qs) (sym c.in_ok-push.ensures.items)
    (subst (λ (rs : List Row). ArePartsFrom 0 rs (ps ++ p ∷ [])) (sym (take_more rows i r c.loop-row-test.true))
    (parts_push 0 (take i rows) ps (get_or rows i r) p c.loop-row.invariant is))
