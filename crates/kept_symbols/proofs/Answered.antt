-- What the calls of a merge answer, step by step.
use Rattle.std.proofs.Common.{◌≡◌, ℕ, suc, ◌+◌, List, [], ◌∷◌, ◌++◌, Some, None, refl, sym, ap, subst, ◌∙◌, arith}
use Rattle.component_package.specs.declared.part.Export.{Export}
use Rattle.component_package.specs.declared.part.Place.{Place}
use Rattle.component_package.specs.declared.part.Place.TheVariants as places
use Rattle.component_package.specs.packages.Component.{Component}
use Rattle.component_package.specs.link.Layout.{Room}
use Rattle.component_package.specs.link.Link.{Duplicate, definition_of, strong_exporters, first_two, duplicate_cause, rooms_of, base_of_place}
use Rattle.component_package.specs.link.Areas.{MergedSymbol, symbol_bytes}
use Rattle.component_package.specs.link.Pages.{merged}
use Rattle.component_package.specs.link.Sets.{IsSet}
use Rattle.kept_symbols.specs.declared.walk.Walk.{Walk}
use Rattle.kept_symbols.specs.Walks.{IsAt, IsFirst}
use Rattle.kept_symbols.specs.Records.{base_in, NoneTwice, IsNextRecord}
use Rattle.kept_symbols.proofs.Duplicates.{single_on, single_more, first_twice}
use Rattle.kept_symbols.proofs.Tables.{table_between, table_defined}
use Rattle.kept_symbols.proofs.WalkLemmas.{walk_on}

-- a place's base by the rooms of a set
pub base_is : (set : List Component) (k : ℕ) (p : Place) → base_in (rooms_of set) k p ≡ base_of_place set k p
base_is set k places.Code = refl
base_is set k places.Init = refl
base_is set k places.Bss = refl
base_is set k places.Absolute = refl

-- two strong exporters of the next symbol
pub next_twice : (set : List Component) (low : ℕ) (w : Walk) (x : ℕ × Export) (i j : ℕ) → IsSet set → IsAt set low w → IsFirst (definition_of set) low (Some x)
    → (IsAt set x.1.symbol w → first_two x.1.symbol (strong_exporters set x.1.symbol) ≡ Some (Duplicate x.1.symbol i j)) → NoneTwice set low → duplicate_cause set ≡ Some (Duplicate x.1.symbol i j)
next_twice set low w x i j is at first two single =
    first_twice set x.1.symbol i j (single_on set low x.1.symbol first.0 first.2 single) (two (walk_on set low x.1.symbol w is first.0 first.2 at))

-- the record of the next symbol
pub next_record : (set : List Component) (low : ℕ) (w v : Walk) (x : ℕ × Export) (address : ℕ) (rooms : List Room) (raw : List ℕ) → IsSet set → IsAt set low w → IsFirst (definition_of set) low (Some x)
    → rooms_of set ≡ rooms → address ≡ base_in rooms x.0 x.1.place + x.1.value
    → raw ≡ symbol_bytes (record { symbol = x.1.symbol; exporter = x.0; place = x.1.place; address = address })
    → (IsAt set x.1.symbol w → first_two x.1.symbol (strong_exporters set x.1.symbol) ≡ None)
    → (IsAt set x.1.symbol w → IsAt set (x.1.symbol + 1) v) → IsNextRecord set low raw v
next_record set low w v x address rooms raw is at first same where_it_is bytes one pass =
    let s : ℕ = x.1.symbol in
    let there = walk_on set low s w is first.0 first.2 at in
    let base : address ≡ base_of_place set x.0 x.1.place + x.1.value = where_it_is ∙ ap (λ (b : ℕ). b + x.1.value) (ap (λ (rs : List Room). base_in rs x.0 x.1.place) (sym same) ∙ base_is set x.0 x.1.place) in
    let e : suc s ≡ s + 1 = omega arith in
    record {
      high = s + 1;
      record_of = merged set x;
      on = omega (arith, first.0);
      at = pass there;
      single = λ single. subst (NoneTwice set) e (single_more set s (one there) (single_on set low s first.0 first.2 single));
      grown = table_defined set s x first.1 ∙ ap (λ (ts : List MergedSymbol). ts ++ merged set x ∷ []) (table_between set low s first.0 first.2);
      bytes = bytes ∙ ap (λ (a : ℕ). symbol_bytes (record { symbol = s; exporter = x.0; place = x.1.place; address = a })) base;
    }
