use Rattle.std.proofs.Common.{◌≡◌, ℕ, ◌+◌, ◌<◌, ◌++◌, ◌∷◌, None, Some, Vec, Global, List, [], get_or, length, drop, refl, sym, ap, ap₂, ◌∙◌, arith}
use Rattle.release_rows.specs.declared.row.SymbolRow.{SymbolRow}
use Rattle.release_versions.specs.Numbers.{rows_from}
use Rattle.release_versions.proofs.Named.{name_is, rows_known, rows_new, left_known, left_new}
use Rattle.release_versions.proofs.numbers.rows_from.Goals.{in-Some, in-None+in_ok-row_of-in-None+in_ok-push-in-None}
use Rattle.release_versions.proofs.numbers.rows_from.Goals as goal

pub loop-i-preserved : goal.loop-i-preserved
loop-i-preserved c = elim c.match-known-i.branch [
  | in-Some w ↦
      let ns = c.args.names.now in
      let ks = c.args.known.now in
      let i : ℕ = c.loop-i.i in
      let before = c.loop-i.invariant in
      let inside : i < length ns = omega (arith, c.loop-i-test.true, c.requires.count) in
      let is : get_or ks i None ≡ Some w.in-Some.field-0 = w.in-Some.is in
      let rows : c.loop-i.rows.items ≡ c.match-known-i.rows.items = ap (λ (v : Vec SymbolRow Global). v.items) (sym w.rows-is) in
      let left = left_known ks i w.in-Some.field-0 c.loop-i-test.true is in (
        rows_known ns ks i (get_or ns i []) w.in-Some.field-0 c.loop-i.rows.items c.args.first c.loop-i.free inside c.loop-i-test.true refl is before.0
            ∙ ap₂ (λ (rs : List SymbolRow) (f : ℕ). rs ++ rows_from f (drop (i + 1) ns) (drop (i + 1) ks)) rows (sym w.free-is),
        omega (arith, w.free-is, left, before.1),
      )
  | in-None+in_ok-row_of-in-None+in_ok-push-in-None w ↦
      let ns = c.args.names.now in
      let ks = c.args.known.now in
      let i : ℕ = c.loop-i.i in
      let before = c.loop-i.invariant in
      let inside : i < length ns = omega (arith, c.loop-i-test.true, c.requires.count) in
      let is : get_or ks i None ≡ None = w.in-None.is in
      let name : get_or ns i [] ≡ w.name.result.now = name_is ns i w.name.result.now w.name.ensures in
      let new : c.loop-i.rows.items ++ record { number = c.loop-i.free; name = w.name.result.now } ∷ [] ≡ c.match-known-i.rows.items =
      ap (λ (r : SymbolRow). c.loop-i.rows.items ++ r ∷ []) (sym w.in_ok-row_of-in-None.ensures) ∙ sym w.in_ok-push-in-None.ensures.items ∙ ap (λ (v : Vec SymbolRow Global). v.items) (sym w.rows-is) in
      let left = left_new ks i c.loop-i-test.true is in (
        rows_new ns ks i w.name.result.now c.loop-i.rows.items c.args.first c.loop-i.free inside c.loop-i-test.true name is before.0
            ∙ ap₂ (λ (rs : List SymbolRow) (f : ℕ). rs ++ rows_from f (drop (i + 1) ns) (drop (i + 1) ks)) new (sym w.free-is),
        omega (arith, w.free-is, left, before.1),
      )
]
