-- A set's own table: there is one, and one alone.
use Rattle.std.proofs.Common.{◌≡◌, ℕ, zero, suc, ◌+◌, ◌<◌, ◌≤◌, ◌^◌, ◌⊎◌, inl, inr, Bool, true, false, eqb, List, [], ◌∷◌, map, Option, Some, None, refl, sym, ap, subst, ◌∙◌, arith}
use Rattle.std.specs.Prelude.{not, is_some}
use Rattle.std.specs.Option.{option_map, option_or}
use Rattle.std.specs.List.{list_any, find, flat_map, enumerate_from, AllByRecursion}
use Rattle.std.proofs.lemmas.Bool.{cases_Bool, cases_lt, eqb-true, and_parts, or_cases}
use Rattle.std.proofs.lemmas.List.Concat.{flat_map-cons}
use Rattle.component_package.specs.declared.part.Export.{Export}
use Rattle.component_package.specs.packages.Component.{Component}
use Rattle.component_package.specs.packages.Grammar.{IsExport, ExportsRise, IsComponent}
use Rattle.component_package.specs.link.Link.{exports_of, is_strong_export_of, definition_of}
use Rattle.component_package.specs.link.Areas.{MergedSymbol, SymbolsRise}
use Rattle.component_package.specs.link.Pages.{merged, IsTableOf}
use Rattle.component_package.specs.link.Sets.{IsSet}
use Rattle.link_laws.specs.Laws.{SomeTable}
use Rattle.link_laws.proofs.Apart.{all_append, IsAt, AreAt, all_at_place}

-- ---- What is found

-- what is found passes the test
pub find_passes : {X : Type 0} (p : X → Bool) (xs : List X) (x : X) → find p xs ≡ Some x → p x ≡ true
find_passes p [] x e = absurd cc
find_passes p (y ∷ ys) x e =
    elim (cases_Bool (p y)) [
      | inl hit ↦ let same : y ≡ x = (let f = rw hit at e in cc) in subst (λ z. p z ≡ true) same hit
      | inr miss ↦ find_passes p ys x (rw miss at e)
    ]

-- what holds of all holds of what is found
pub find_has : {X : Type 0} (p : X → Bool) (P : X → Type 0) (xs : List X) (x : X) → AllByRecursion P xs → find p xs ≡ Some x → P x
find_has p P [] x all e = absurd cc
find_has p P (y ∷ ys) x all e =
    elim (cases_Bool (p y)) [
      | inl hit ↦ let same : y ≡ x = (let f = rw hit at e in cc) in subst P same all.0
      | inr miss ↦ find_has p P ys x all.1 (rw miss at e)
    ]

-- one of two
pub either : {X : Type 0} (a b : Option X) (x : X) → option_or a b ≡ Some x → (a ≡ Some x) ⊎ (b ≡ Some x)
either None b x e = inr e
either (Some y) b x e = inl e

-- the definition of a symbol is an export of it
pub definition_symbol : (set : List Component) (s : ℕ) (x : ℕ × Export) → definition_of set s ≡ Some x → x.1.symbol ≡ s
definition_symbol set s x e =
    elim (either (find (is_strong_export_of s) (exports_of set)) (find (λ y. eqb y.1.symbol s) (exports_of set)) x e) [
      | inl strong ↦ eqb-true x.1.symbol s (and_parts (eqb x.1.symbol s) (not x.1.weak) (find_passes (is_strong_export_of s) (exports_of set) x strong)).0
      | inr any ↦ eqb-true x.1.symbol s (find_passes (λ y. eqb y.1.symbol s) (exports_of set) x any)
    ]

-- what holds of all exports holds of it
pub definition_has : (set : List Component) (P : (ℕ × Export) → Type 0) (s : ℕ) (x : ℕ × Export) → AllByRecursion P (exports_of set) → definition_of set s ≡ Some x → P x
definition_has set P s x all e =
    elim (either (find (is_strong_export_of s) (exports_of set)) (find (λ y. eqb y.1.symbol s) (exports_of set)) x e) [
      | inl strong ↦ find_has (is_strong_export_of s) P (exports_of set) x all strong
      | inr any ↦ find_has (λ y. eqb y.1.symbol s) P (exports_of set) x all any
    ]

-- ---- All exports

-- exports with their component
all_pairs : (P : (ℕ × Export) → Type 0) (k : ℕ) (es : List Export) → AllByRecursion (λ e. P (k, e)) es → AllByRecursion P (map (λ e. (k, e)) es)
all_pairs P k [] all = tt
all_pairs P k (e ∷ es) all = (all.0, all_pairs P k es all.1)

-- what holds of each component's exports holds of those from n on
exports_from : (set : List Component) (P : (ℕ × Export) → Type 0) → ((k : ℕ) (c : Component) → IsAt set k c → IsComponent c → AllByRecursion (λ e. P (k, e)) c.exports)
    → (n : ℕ) (cs : List Component) → AreAt set n cs → AllByRecursion IsComponent cs → AllByRecursion P (flat_map (λ c. map (λ e. (c.0, e)) c.1.exports) (enumerate_from n cs))
exports_from set P each n [] are components = tt
exports_from set P each n (c ∷ cs) are components =
    rw (flat_map-cons {X = ℕ × Component} {A = ℕ × Export} (λ p. map (λ e. (p.0, e)) p.1.exports) (n, c) (enumerate_from (n + 1) cs))
    (all_append P (map (λ e. (n, e)) c.exports) (flat_map (λ p. map (λ e. (p.0, e)) p.1.exports) (enumerate_from (n + 1) cs))
    (all_pairs P n c.exports (each n c are.0 components.0)) (exports_from set P each (n + 1) cs are.1 components.1))

-- what holds of each component's exports holds of all exports of the set
pub all_exports : (set : List Component) (P : (ℕ × Export) → Type 0) → ((k : ℕ) (c : Component) → IsAt set k c → IsComponent c → AllByRecursion (λ e. P (k, e)) c.exports)
    → AllByRecursion IsComponent set → AllByRecursion P (exports_of set)
all_exports set P each components = exports_from set P each 0 set (all_at_place set) components

-- an export's symbol is 16 or above, and has two bytes
pub record HasSymbol (x : ℕ × Export) : Type 0 where
  pub low : 16 ≤ x.1.symbol
  pub high : x.1.symbol < 2 ^ 16

-- a component's exports have symbols of two bytes, from 16 on
have_symbols : (c : Component) (k low : ℕ) (es : List Export) → 16 ≤ low → ExportsRise low es → AllByRecursion (IsExport c) es → AllByRecursion (λ e. HasSymbol (k, e)) es
have_symbols c k low [] le rise all = tt
have_symbols c k low (e ∷ es) le rise all = (record { low = omega (arith, le, rise.0); high = all.0.symbol }, have_symbols c k (e.symbol + 1) es (omega (arith, le, rise.0)) rise.1 all.1)

-- so have all exports of a set
pub exports_have_symbols : (set : List Component) → AllByRecursion IsComponent set → AllByRecursion HasSymbol (exports_of set)
exports_have_symbols set components = all_exports set HasSymbol (λ k c at is. have_symbols c k 16 c.exports (omega arith) is.export_order is.exports) components

-- ---- The table

-- the record of a symbol before others, where it is exported
abbrev and_record : Option MergedSymbol → List MergedSymbol → List MergedSymbol
and_record None rs = rs
and_record (Some r) rs = r ∷ rs

-- the record of a symbol, if it is defined
abbrev record_of : List Component → ℕ → Option MergedSymbol
record_of set s = option_map (merged set) (definition_of set s)

-- the records of n symbols from low on
table_from : List Component → ℕ → ℕ → List MergedSymbol
table_from set low zero = []
table_from set low (suc n) = and_record (record_of set low) (table_from set (low + 1) n)

-- symbols that rise from a higher one on
lower : (low high : ℕ) (rs : List MergedSymbol) → low ≤ high → SymbolsRise high rs → SymbolsRise low rs
lower low high [] le rise = tt
lower low high (r ∷ rs) le rise = (omega (arith, le, rise.0), rise.1)

-- a record's symbol is the one that was looked up
record_symbol : (set : List Component) (s : ℕ) (d : Option (ℕ × Export)) (r : MergedSymbol) → definition_of set s ≡ d → option_map (merged set) d ≡ Some r → r.symbol ≡ s
record_symbol set s None r e f = absurd cc
record_symbol set s (Some x) r e f = let same : r ≡ merged set x = cc in ap (λ (z : MergedSymbol). z.symbol) same ∙ definition_symbol set s x e

-- a record before others that rise
and_rise : (low : ℕ) (o : Option MergedSymbol) (rs : List MergedSymbol) → ((r : MergedSymbol) → o ≡ Some r → r.symbol ≡ low) → SymbolsRise (low + 1) rs → SymbolsRise low (and_record o rs)
and_rise low None rs is rise = lower low (low + 1) rs (omega arith) rise
and_rise low (Some r) rs is rise = let e : r.symbol ≡ low = is r refl in (omega (arith, e), subst (λ n. SymbolsRise (n + 1) rs) (sym e) rise)

-- the table rises
table_rises : (set : List Component) (low n : ℕ) → SymbolsRise low (table_from set low n)
unfolding table_from
table_rises set low zero = tt
table_rises set low (suc n) = and_rise low (record_of set low) (table_from set (low + 1) n) (λ r e. record_symbol set low (definition_of set low) r refl e) (table_rises set (low + 1) n)

-- what holds of a record and of others
and_each : (P : MergedSymbol → Type 0) (o : Option MergedSymbol) (rs : List MergedSymbol) → ((r : MergedSymbol) → o ≡ Some r → P r) → AllByRecursion P rs → AllByRecursion P (and_record o rs)
and_each P None rs here all = all
and_each P (Some r) rs here all = (here r refl, all)

-- a record is that of its symbol's definition
abbrev Gives : List Component → MergedSymbol → Type 0
Gives set r = option_map (merged set) (definition_of set r.symbol) ≡ Some r

-- each record of the table is
table_gives : (set : List Component) (low n : ℕ) → AllByRecursion (Gives set) (table_from set low n)
unfolding table_from
table_gives set low zero = tt
table_gives set low (suc n) =
    and_each (Gives set) (record_of set low) (table_from set (low + 1) n)
    (λ r e. subst (λ s. option_map (merged set) (definition_of set s) ≡ Some r) (sym (record_symbol set low (definition_of set low) r refl e)) e) (table_gives set (low + 1) n)

-- a record more changes nothing
and_any : (s : ℕ) (o : Option MergedSymbol) (rs : List MergedSymbol) → list_any (λ r. eqb r.symbol s) rs ≡ true → list_any (λ r. eqb r.symbol s) (and_record o rs) ≡ true
and_any s None rs any = any
and_any s (Some r) rs any = elim (cases_Bool (eqb r.symbol s)) [ inl hit ↦ rw hit refl | inr miss ↦ rw miss any ]

-- a symbol is equal to itself
pub same_symbol : (s : ℕ) → eqb s s ≡ true
same_symbol s = grind arith

-- a defined symbol has its record
and_here : (set : List Component) (s : ℕ) (d : Option (ℕ × Export)) (rs : List MergedSymbol) → definition_of set s ≡ d → is_some d ≡ true → list_any (λ r. eqb r.symbol s) (and_record (option_map (merged set) d) rs) ≡ true
and_here set s None rs e some = absurd cc
and_here set s (Some x) rs e some = let same : x.1.symbol ≡ s = definition_symbol set s x e in rw (same, same_symbol s) refl

-- each defined symbol in the range has a record
table_whole : (set : List Component) (s low n : ℕ) → low ≤ s → s < low + n → is_some (definition_of set s) ≡ true → list_any (λ r. eqb r.symbol s) (table_from set low n) ≡ true
unfolding table_from
table_whole set s low zero le lt some = absurd (omega arith)
table_whole set s low (suc n) le lt some =
    elim (cases_lt low s) [
      | inl later ↦ and_any s (record_of set low) (table_from set (low + 1) n) (table_whole set s (low + 1) n (omega arith) (omega arith) some)
      | inr here ↦ let e : low ≡ s = omega arith in
          subst (λ l. list_any (λ r. eqb r.symbol s) (and_record (record_of set l) (table_from set (low + 1) n)) ≡ true) (sym e)
          (and_here set s (definition_of set s) (table_from set (low + 1) n) refl some)
    ]

-- a symbol that is defined is one of those that exports have
defined_within : (set : List Component) (s : ℕ) (d : Option (ℕ × Export)) → definition_of set s ≡ d → is_some d ≡ true → AllByRecursion HasSymbol (exports_of set) → (16 ≤ s) × (s < 2 ^ 16)
defined_within set s None e some all = absurd cc
defined_within set s (Some x) e some all =
    let has = definition_has set HasSymbol s x all e in
    let same : x.1.symbol ≡ s = definition_symbol set s x e in
    (subst (λ n. 16 ≤ n) same has.low, subst (λ n. n < 2 ^ 16) same has.high)

-- it is the set's own table
table_is : (set : List Component) (n : ℕ) → 2 ^ 16 ≤ 16 + n → AllByRecursion HasSymbol (exports_of set) → IsTableOf set (table_from set 16 n)
table_is set n enough all = record {
  rise = table_rises set 16 n;
  each = table_gives set 16 n;
  whole = λ s some. let within = defined_within set s (definition_of set s) refl some all in table_whole set s 16 n within.0 (omega (arith, enough, within.1)) some;
}

-- a set has a table of its own
pub table_exists : (set : List Component) → IsSet set → SomeTable set
table_exists set is = record { table = table_from set 16 (2 ^ 16); is = table_is set (2 ^ 16) (omega arith) (exports_have_symbols set is.components) }

-- ---- One table

-- a record comes of a definition
given_some : (set : List Component) (d : Option (ℕ × Export)) (r : MergedSymbol) → option_map (merged set) d ≡ Some r → is_some d ≡ true
given_some set None r e = absurd cc
given_some set (Some x) r e = refl

-- no record is below the first
none_below : (s low : ℕ) (rs : List MergedSymbol) → s < low → SymbolsRise low rs → list_any (λ r. eqb r.symbol s) rs ≡ false
none_below s low [] lt rise = refl
none_below s low (r ∷ rs) lt rise =
    elim (cases_Bool (eqb r.symbol s)) [
      | inl hit ↦ absurd (omega (arith, lt, rise.0, eqb-true r.symbol s hit))
      | inr miss ↦ rw miss (none_below s (r.symbol + 1) rs (omega (arith, lt, rise.0)) rise.1)
    ]

-- each symbol from low on that the set defines has a record
abbrev Has : List Component → ℕ → List MergedSymbol → Type 0
Has set low rs = (s : ℕ) → low ≤ s → is_some (definition_of set s) ≡ true → list_any (λ r. eqb r.symbol s) rs ≡ true

-- the records behind the first are those of later symbols
later_has : (set : List Component) (low : ℕ) (r : MergedSymbol) (rs : List MergedSymbol) → low ≤ r.symbol → Has set low (r ∷ rs) → Has set (r.symbol + 1) rs
later_has set low r rs le has s after some =
    let any = has s (omega (arith, le, after)) some in
    elim (or_cases (eqb r.symbol s) (list_any (λ q. eqb q.symbol s) rs) any) [
      | inl here ↦ absurd (omega (arith, after, eqb-true r.symbol s here))
      | inr there ↦ there
    ]

-- nothing is true and false
false_true : (b : Bool) → b ≡ false → b ≡ true → ⊥
false_true true e f = absurd cc
false_true false e f = absurd cc

-- the first record is not above another table's first
not_above : (set : List Component) (low : ℕ) (r q : MergedSymbol) (qs : List MergedSymbol) → Gives set r → low ≤ r.symbol → SymbolsRise (q.symbol + 1) qs → Has set low (q ∷ qs) → q.symbol ≤ r.symbol
not_above set low r q qs gives le rise has =
    elim (cases_lt r.symbol q.symbol) [
      | inl lt ↦ absurd (false_true _ (none_below r.symbol q.symbol (q ∷ qs) lt (omega arith, rise)) (has r.symbol le (given_some set (definition_of set r.symbol) r gives)))
      | inr ge ↦ omega (arith, ge)
    ]

-- two tables of a set are the same, record by record
same_tables : (set : List Component) (low : ℕ) (rs qs : List MergedSymbol) → SymbolsRise low rs → SymbolsRise low qs → AllByRecursion (Gives set) rs → AllByRecursion (Gives set) qs → Has set low rs → Has set low qs → rs ≡ qs
same_tables set low [] [] a b c d e f = refl
same_tables set low [] (q ∷ qs) a b c d e f = absurd (let any = e q.symbol b.0 (given_some set (definition_of set q.symbol) q d.0) in cc)
same_tables set low (r ∷ rs) [] a b c d e f = absurd (let any = f r.symbol a.0 (given_some set (definition_of set r.symbol) r c.0) in cc)
same_tables set low (r ∷ rs) (q ∷ qs) a b c d e f =
    let one = not_above set low r q qs c.0 a.0 b.1 f in
    let other = not_above set low q r rs d.0 b.0 a.1 e in
    let symbol : q.symbol ≡ r.symbol = omega (arith, one, other) in
    let here : option_map (merged set) (definition_of set r.symbol) ≡ Some q = subst (λ s. option_map (merged set) (definition_of set s) ≡ Some q) symbol d.0 in
    let gives = c.0 in
    let same : r ≡ q = cc in
    let rest = same_tables set (r.symbol + 1) rs qs a.1 (subst (λ s. SymbolsRise (s + 1) qs) symbol b.1) c.1 d.1 (later_has set low r rs a.0 e)
    (subst (λ s. Has set (s + 1) qs) symbol (later_has set low q qs b.0 f)) in
    ap (λ (z : MergedSymbol). z ∷ rs) same ∙ ap (λ (zs : List MergedSymbol). q ∷ zs) rest

-- a set has one table at most
pub table_one : (set : List Component) (t u : List MergedSymbol) → IsTableOf set t → IsTableOf set u → t ≡ u
table_one set t u a b = same_tables set 16 t u a.rise b.rise a.each b.each (λ s le. a.whole s) (λ s le. b.whole s)
