-- One part more.
use Rattle.std.proofs.Common.{◌≡◌, ℕ, ◌+◌, suc, List, [], ◌∷◌, ◌++◌, length, subst, arith}
use Rattle.sqlite_value.specs.Order.{Row}
use Rattle.release_rows.specs.declared.part.Numbered.{Numbered}
use Rattle.sqlite_keeper.specs.Stored.{IsPartIn, ArePartsFrom}

pub parts_push : (n : ℕ) (rs : List Row) (ps : List Numbered) (r : Row) (p : Numbered)
    → ArePartsFrom n rs ps → IsPartIn r (n + length ps) p → ArePartsFrom n (rs ++ r ∷ []) (ps ++ p ∷ [])
parts_push n [] [] r p are is = let e : n + 0 ≡ n = omega arith in (subst (λ (k : ℕ). IsPartIn r k p) e is, tt)
parts_push n (q ∷ qs) (x ∷ xs) r p are is =
    let e : n + suc (length xs) ≡ n + 1 + length xs = omega arith in
    (are.0, parts_push (n + 1) qs xs r p are.1 (subst (λ (k : ℕ). IsPartIn r k p) e is))
parts_push n [] (x ∷ xs) r p are is = elim are [ ]
parts_push n (q ∷ qs) [] r p are is = elim are [ ]
