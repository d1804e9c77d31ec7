-- A page that is filled record by record.
use Rattle.std.proofs.Common.{◌≡◌, ℕ, ◌+◌, ◌≤◌, ◌⊎◌, List, [], ◌∷◌, ◌++◌, length, Err, sym, ap, ◌∙◌, arith, append_assoc, length-append}
use Rattle.std.proofs.lemmas.List.{append-nil}
use Rattle.component_package.specs.packages.Component.{Component}
use Rattle.component_package.specs.link.Areas.{MergedSymbol, symbol_bytes}
use Rattle.kept_symbols.specs.declared.fault.MergeFault.{MergeFault}
use Rattle.kept_symbols.specs.declared.fault.MergeFault.TheVariants.{Fault, Symbols, Duplicate}
use Rattle.kept_symbols.specs.declared.walk.Walk.{Walk}
use Rattle.kept_symbols.specs.Walks.{IsAt, table_to}
use Rattle.kept_symbols.specs.Records.{NoneTwice, NoneFrom, IsNextRecord, IsFilled, NextIs, FillIs, records_in}

-- a page holds so many records from `low` on
pub record HasPut (set : List Component) (low made : ℕ) (page : List ℕ) (w : Walk) : Type 0 where
  pub high : ℕ
  pub records : List MergedSymbol
  pub on : low ≤ high
  pub at : IsAt set high w
  pub single : NoneTwice set low → NoneTwice set high
  pub grown : table_to set high ≡ table_to set low ++ records
  pub count : length records ≡ made
  pub bytes : page ≡ records_in 256 records

pub put_none : (set : List Component) (low : ℕ) (page : List ℕ) (w : Walk) → IsAt set low w → page ≡ records_in 256 [] → HasPut set low 0 page w
put_none set low page w at blank = record { high = low; records = []; on = omega arith; at = at; single = λ single. single; grown = sym (append-nil (table_to set low)); count = omega arith; bytes = blank }

pub put_more : (set : List Component) (low i : ℕ) (page new raw : List ℕ) (w v : Walk) → (old : HasPut set low i page w) → IsNextRecord set old.high raw v
    → ((records : List MergedSymbol) (more : MergedSymbol) → length records ≡ i → page ≡ records_in 256 records → raw ≡ symbol_bytes more → new ≡ records_in 256 (records ++ more ∷ []))
    → HasPut set low (i + 1) new v
put_more set low i page new raw w v old next puts = record {
  high = next.high;
  records = old.records ++ next.record_of ∷ [];
  on = omega (arith, old.on, next.on);
  at = next.at;
  single = λ single. next.single (old.single single);
  grown = next.grown ∙ ap (λ (ts : List MergedSymbol). ts ++ next.record_of ∷ []) old.grown ∙ append_assoc (table_to set low) old.records (next.record_of ∷ []);
  count = length-append old.records (next.record_of ∷ []) ∙ omega (arith, old.count);
  bytes = puts old.records next.record_of old.count old.bytes next.bytes;
}

pub put_all : (set : List Component) (low made : ℕ) (page : List ℕ) (w v : Walk) → (old : HasPut set low made page w) → IsAt set old.high v → (made ≡ 32) ⊎ NoneFrom set old.high → IsFilled set low made page v
put_all set low made page w v old at full = record {
  high = old.high;
  records = old.records;
  on = old.on;
  at = at;
  single = old.single;
  grown = old.grown;
  count = old.count;
  bytes = old.bytes;
  full = full;
}

-- an answer that ends a page
pub fill_ends : (set : List Component) (low high : ℕ) (page : List ℕ) (v : Walk) (f : MergeFault) → (NoneTwice set low → NoneTwice set high) → NextIs set high v (Err f) → FillIs set low page v (Err f)
fill_ends set low high page v Fault single next = tt
fill_ends set low high page v (Symbols n) single next = tt
fill_ends set low high page v (Duplicate s i j) single next = λ none. next (single none)
