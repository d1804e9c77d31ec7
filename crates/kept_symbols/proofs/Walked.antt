-- How far a walk has come.
use Rattle.std.proofs.Common.{◌≡◌, ℕ, ◌+◌, ◌≤◌, ◌^◌, inl, inr, List, [], ◌∷◌, ◌++◌, length, Some, None, refl, sym, ap, ◌∙◌, arith, length-append}
use Rattle.std.proofs.lemmas.Bool.{cases_lt, lt-ltb, le-ltb}
use Rattle.component_package.specs.declared.part.Export.{Export}
use Rattle.component_package.specs.packages.Component.{Component}
use Rattle.component_package.specs.link.Link.{definition_of, distinct, symbols_of}
use Rattle.component_package.specs.link.Pages.{merged}
use Rattle.component_package.specs.link.Sets.{IsSet}
use Rattle.kept_symbols.specs.declared.walk.Walk.{Walk}
use Rattle.kept_symbols.specs.Answers.{Counts, limited}
use Rattle.kept_symbols.specs.Walks.{IsAt, IsFirst, table_to}
use Rattle.kept_symbols.proofs.Tables.{table_between, table_defined, table_counts, none_high}
use Rattle.kept_symbols.proofs.WalkLemmas.{walk_on}

-- a walk stands behind some symbols, of which so many are exported
pub record HasCounted (set : List Component) (w : Walk) (n : ℕ) : Type 0 where
  pub low : ℕ
  pub at : IsAt set low w
  pub far : n ≤ low
  pub count : length (table_to set low) ≡ n

-- at first none
unfold_start : (set : List Component) → length (table_to set 0) ≡ 0
unfolding table_to
unfold_start set = refl

pub counted_none : (set : List Component) (w : Walk) → IsAt set 0 w → HasCounted set w 0
counted_none set w at = record { low = 0; at = at; far = omega arith; count = unfold_start set }

-- the next symbol is one more
pub counted_more : (set : List Component) (w v : Walk) (n : ℕ) (x : ℕ × Export) → IsSet set → HasCounted set w n → ((low : ℕ) → IsAt set low w → IsFirst (definition_of set) low (Some x))
    → (IsAt set x.1.symbol w → IsAt set (x.1.symbol + 1) v) → HasCounted set v (n + 1)
counted_more set w v n x is old next pass =
    let first = next old.low old.at in
    let s : ℕ = x.1.symbol in
    let grown = table_defined set s x first.1 ∙ ap (λ ts. ts ++ merged set x ∷ []) (table_between set old.low s first.0 first.2) in
    record {
      low = s + 1;
      at = pass (walk_on set old.low s w is first.0 first.2 old.at);
      far = omega (arith, old.far, first.0);
      count = ap length grown ∙ length-append (table_to set old.low) (merged set x ∷ []) ∙ omega (arith, old.count);
    }

-- all are counted
limit : (set : List Component) (n : ℕ) → length (distinct (symbols_of set)) ≡ n → Counts set (limited n)
limit set n count =
    elim (cases_lt 1024 n) [
      | inl more ↦ rw (lt-ltb 1024 n more) (rw (count, lt-ltb 1024 n more) refl)
      | inr few ↦ rw (le-ltb 1024 n few) (rw (count, le-ltb 1024 n few) refl, count)
    ]

pub counted_all : (set : List Component) (w : Walk) (n : ℕ) → IsSet set → HasCounted set w n → ((low : ℕ) → IsAt set low w → IsFirst (definition_of set) low None) → Counts set (limited n)
counted_all set w n is old next = limit set n (sym (table_counts set old.low is (next old.low old.at)) ∙ old.count)

-- so they are where there are no more numbers
pub counted_high : (set : List Component) (w : Walk) (n : ℕ) → IsSet set → 2 ^ 16 ≤ n → HasCounted set w n → Counts set (limited n)
counted_high set w n is high old = limit set n (sym (table_counts set old.low is (λ s le. none_high set s is (omega (arith, le, old.far, high)))) ∙ old.count)
