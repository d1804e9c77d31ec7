-- A cursor whose window is read, and one that goes on.
use Rattle.std.proofs.Common.{◌≡◌, ℕ, ◌+◌, ◌-◌, ◌/◌, ◌%◌, ◌<◌, ◌≤◌, min, List, ◌++◌, length, ap, ◌∙◌, arith, slice_range}
use Rattle.std.specs.Prelude.{slice_get}
use Rattle.component_package.specs.declared.part.Export.{Export}
use Rattle.kept_symbols.specs.declared.cursor.Cursor.{Cursor}
use Rattle.kept_symbols.specs.Cursors.{IsCursor}
use Rattle.kept_symbols.proofs.Elements.{get_front, get_range}

-- the window is read at an index that 8 divides
pub filled : (es into rest : List Export) (next count size : ℕ) → into ≡ slice_range es next (next + size) → length into ≡ size → size ≡ min (count - next) 8 → count ≡ length es → next % 8 ≡ 0
    → IsCursor es (record { next = next; count = count; window = into ++ rest })
filled es into rest next count size read wide is all whole = record {
  count = all;
  window = λ j from to same.
      let near : j - next < size = omega arith in
      let at : j % 8 ≡ j - next = omega arith in
      let back : next + (j - next) ≡ j = omega arith in
      ap (slice_get (into ++ rest)) at ∙ get_front into rest (j - next) (omega arith) ∙ ap (λ xs. slice_get xs (j - next)) read
      ∙ get_range es next size (j - next) near ∙ ap (slice_get es) back;
}

-- the next index, in the same window
pub went_on : (es : List Export) (c : Cursor) (next : ℕ) → IsCursor es c → c.next ≤ next → next / 8 ≡ c.next / 8 → IsCursor es (record c { next = next })
went_on es c next is later same = record {
  count = is.count;
  window = λ j from to here. is.window j (omega arith) to (here ∙ same);
}
