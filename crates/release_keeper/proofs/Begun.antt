-- Tables in which a change has begun.
use Rattle.std.proofs.Common.{◌≡◌, ◌≤◌, ℕ, List, [], ◌∷◌, ◌++◌, length, take, Option, Some, None, refl, sym, ap, ◌∙◌, arith, length-append}
use Rattle.std.specs.Prelude.{Result, Ok, Err, OnErr}
use Rattle.std.proofs.Math.Seq.{take-length}
use Rattle.std.proofs.lemmas.List.{take_at, take-take}
use Rattle.release_rows.specs.declared.row.SymbolRow.{SymbolRow}
use Rattle.release_rows.specs.declared.row.ComponentRow.{ComponentRow}
use Rattle.release_rows.specs.declared.row.VersionRow.{VersionRow}
use Rattle.release_rows.specs.declared.row.KeyRow.{KeyRow}
use Rattle.release_rows.specs.Tables.{Tables}
use Rattle.release_rows.specs.Change.{with_component}
use Rattle.release_keeper.specs.Tables.{HasBegun}

-- a fact whatever the result
pub on_err : {A E P : Type 0} (r : Result A E) → P → OnErr r P
on_err (Ok a) holds = tt
on_err (Err e) holds = holds

pub on_err_then : {A E P Q : Type 0} (r : Result A E) → (P → Q) → OnErr r P → OnErr r Q
on_err_then (Ok a) so holds = tt
on_err_then (Err e) so holds = so holds

-- rows that are as they were, or have more behind them
pub taken_same : {Row : Type 0} (rows after : List Row) → after ≡ rows → take (length rows) after ≡ rows
taken_same rows after is = ap (λ (l : List _). take (length rows) l) is ∙ take-length rows

pub taken_more : {Row : Type 0} (rows more after : List Row) → after ≡ rows ++ more → take (length rows) after ≡ rows
taken_more rows more after is = ap (λ (l : List _). take (length rows) l) is ∙ take_at rows more (length rows) refl

pub taken_component : (rows after : List ComponentRow) (known : Option ℕ) (name : List ℕ) (number : ℕ) → after ≡ with_component rows known name number → take (length rows) after ≡ rows
taken_component rows after (Some k) name number is = taken_same rows after is
taken_component rows after None name number is = taken_more rows (record { number = number; name = name } ∷ []) after is

pub begun : (t : Tables) (symbols : List SymbolRow) (components : List ComponentRow) (versions : List VersionRow) → take (length t.symbols) symbols ≡ t.symbols → take (length t.components) components ≡ t.components
    → versions ≡ t.versions → HasBegun t (record t { symbols = symbols; components = components; versions = versions })
begun t symbols components versions one two three = record { symbols = one; components = two; versions = three; releases = refl; acks = refl; keys = take-length t.keys }

-- behind the key, which comes first
pub begun_behind : (t new : Tables) (keys : List KeyRow) (k : KeyRow) → keys ≡ t.keys ++ k ∷ [] → HasBegun (record t { keys = keys }) new → HasBegun t new
begun_behind t new keys k is begun = record {
  symbols = begun.symbols;
  components = begun.components;
  versions = begun.versions;
  releases = begun.releases;
  acks = begun.acks;
  keys = sym (take-take (length t.keys) (length keys) new.keys (omega (arith, ap (λ (l : List KeyRow). length l) is, length-append t.keys (k ∷ []))))
      ∙ ap (λ (l : List KeyRow). take (length t.keys) l) begun.keys ∙ taken_more t.keys (k ∷ []) keys is;
}
