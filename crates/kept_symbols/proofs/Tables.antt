-- The records of all symbols below a number: the set's own table in the end.
use Rattle.std.proofs.Common.{◌≡◌, ℕ, zero, suc, ◌+◌, ◌-◌, ◌<◌, ◌≤◌, ◌^◌, inl, inr, Bool, true, false, eqb, List, [], ◌∷◌, ◌++◌, length, map, Option, Some, None, refl, sym, ap, subst, ◌∙◌, arith, append_assoc}
use Rattle.std.specs.Prelude.{is_some, option_to_list}
use Rattle.std.specs.List.{list_any, find, AllByRecursion}
use Rattle.std.specs.Option.{option_map, option_or}
use Rattle.std.proofs.lemmas.Bool.{cases_Bool, cases_lt, cases_eq, eq-eqb, ne_eqb}
use Rattle.std.proofs.lemmas.List.{append-nil, length-map}
use Rattle.std.proofs.lemmas.List.Folds.{list_any-append}
use Rattle.std.proofs.Math.Bool.{or-true}
use Rattle.component_package.specs.declared.part.Export.{Export}
use Rattle.component_package.specs.packages.Component.{Component}
use Rattle.component_package.specs.link.Link.{exports_of, symbols_of, is_strong_export_of, definition_of, distinct}
use Rattle.component_package.specs.link.Areas.{MergedSymbol, SymbolsRise}
use Rattle.component_package.specs.link.Pages.{merged, IsTableOf}
use Rattle.component_package.proofs.Lists.{all_more}
use Rattle.component_package.specs.link.Sets.{IsSet}
use Rattle.link_laws.proofs.Law.{any_map}
use Rattle.link_laws.proofs.Table.{definition_symbol, definition_has, exports_have_symbols, HasSymbol}
use Rattle.link_laws.proofs.Few.{occurs, without, without_other, not_more, all_occur}
use Rattle.kept_symbols.specs.Walks.{table_to}

-- ---- from one symbol to the next

-- nothing between two symbols
pub table_kept : (set : List Component) (low n : ℕ) → ((s : ℕ) → low ≤ s → s < low + n → definition_of set s ≡ None) → table_to set (low + n) ≡ table_to set low
unfolding table_to
table_kept set low zero none = ap (table_to set) (let e : low + 0 ≡ low = omega arith in e)
table_kept set low (suc n) none =
    let e : low + suc n ≡ suc (low + n) = omega arith in
    let here : definition_of set (low + n) ≡ None = none (low + n) (omega arith) (omega arith) in
    ap (table_to set) e ∙ ap (λ (o : Option (ℕ × Export)). table_to set (low + n) ++ option_to_list (option_map (merged set) o)) here
    ∙ append-nil (table_to set (low + n)) ∙ table_kept set low n (λ s from to. none s from (omega (arith, to)))

-- the same up to a symbol
pub table_between : (set : List Component) (low s : ℕ) → low ≤ s → ((t : ℕ) → low ≤ t → t < s → definition_of set t ≡ None) → table_to set s ≡ table_to set low
table_between set low s le none =
    let e : low + (s - low) ≡ s = omega arith in
    ap (table_to set) (sym e) ∙ table_kept set low (s - low) (λ t from to. none t from (omega (arith, to, le)))

-- the record of a symbol that is defined
pub table_defined : (set : List Component) (s : ℕ) (x : ℕ × Export) → definition_of set s ≡ Some x → table_to set (s + 1) ≡ table_to set s ++ merged set x ∷ []
unfolding table_to
table_defined set s x is =
    let e : s + 1 ≡ suc s = omega arith in
    ap (table_to set) e ∙ ap (λ (o : Option (ℕ × Export)). table_to set s ++ option_to_list (option_map (merged set) o)) is

-- a later table begins with an earlier one
pub table_begins : (set : List Component) (low n : ℕ) → (more : List MergedSymbol) × (table_to set (low + n) ≡ table_to set low ++ more)
unfolding table_to
table_begins set low zero = ([], ap (table_to set) (let e : low + 0 ≡ low = omega arith in e) ∙ sym (append-nil (table_to set low)))
table_begins set low (suc n) =
    let rest = table_begins set low n in
    let e : low + suc n ≡ suc (low + n) = omega arith in
    let last : List MergedSymbol = option_to_list (option_map (merged set) (definition_of set (low + n))) in
    (rest.0 ++ last, ap (table_to set) e ∙ ap (λ (ts : List MergedSymbol). ts ++ last) rest.1 ∙ append_assoc (table_to set low) rest.0 last)

-- ---- what the table is

-- a record for each symbol below a number that the set exports
pub record IsTableBelow (low : ℕ) (set : List Component) (table : List MergedSymbol) : Type 0 where
  pub rise : SymbolsRise 16 table
  pub below : AllByRecursion (λ r. r.symbol < low) table
  pub each : AllByRecursion (λ r. option_map (merged set) (definition_of set r.symbol) ≡ Some r) table
  pub whole : (s : ℕ) → s < low → is_some (definition_of set s) ≡ true → list_any (λ r. eqb r.symbol s) table ≡ true

rise_more : (rs : List MergedSymbol) (low : ℕ) (r : MergedSymbol) → low ≤ r.symbol → SymbolsRise low rs → AllByRecursion (λ t. t.symbol < r.symbol) rs → SymbolsRise low (rs ++ r ∷ [])
rise_more [] low r le rise below = (le, tt)
rise_more (t ∷ ts) low r le rise below = (rise.0, rise_more ts (t.symbol + 1) r (omega (arith, below.0)) rise.1 below.1)

lower_all : (rs : List MergedSymbol) (m n : ℕ) → m ≤ n → AllByRecursion (λ t. t.symbol < m) rs → AllByRecursion (λ t. t.symbol < n) rs
lower_all [] m n le all = tt
lower_all (t ∷ ts) m n le all = (omega (arith, le, all.0), lower_all ts m n le all.1)

-- one symbol more
below_more : (set : List Component) (table : List MergedSymbol) (s : ℕ) (d : Option (ℕ × Export)) → AllByRecursion HasSymbol (exports_of set) → definition_of set s ≡ d → IsTableBelow s set table
    → IsTableBelow (s + 1) set (table ++ option_to_list (option_map (merged set) d))
below_more set table s None has is t = subst (IsTableBelow (s + 1) set) (sym (append-nil table)) (record {
  rise = t.rise;
  below = lower_all table s (s + 1) (omega arith) t.below;
  each = t.each;
  whole = λ u lt some. elim (cases_lt u s) [
    | inl old ↦ t.whole u old some
    | inr now ↦ absurd (let e : u ≡ s = omega (arith, lt, now) in let none : is_some (definition_of set u) ≡ false = ap (λ n. is_some (definition_of set n)) e ∙ ap (λ (o : Option (ℕ × Export)). is_some o) is in let bad = sym none ∙ some in cc)
  ];
})
below_more set table s (Some x) has is t =
    let r : MergedSymbol = merged set x in
    let symbol : x.1.symbol ≡ s = definition_symbol set s x is in
    let floor : 16 ≤ x.1.symbol = (definition_has set HasSymbol s x has is).low in
    record {
      rise = rise_more table 16 r floor t.rise (subst (λ n. AllByRecursion (λ q. q.symbol < n) table) (sym symbol) t.below);
      below = all_more (λ q. q.symbol < s + 1) table r (lower_all table s (s + 1) (omega arith) t.below) (omega (arith, symbol));
      each = all_more (λ q. option_map (merged set) (definition_of set q.symbol) ≡ Some q) table r t.each (ap (λ n. option_map (merged set) (definition_of set n)) symbol ∙ ap (option_map (merged set)) is);
      whole = λ u lt some. list_any-append (λ q. eqb q.symbol u) table (r ∷ []) ∙ elim (cases_lt u s) [
        | inl old ↦ rw (t.whole u old some) refl
        | inr now ↦ let e : x.1.symbol ≡ u = omega (arith, lt, now, symbol) in rw (eq-eqb x.1.symbol u e) (or-true (list_any (λ q. eqb q.symbol u) table))
      ];
    }

-- the table of all symbols below a number
pub table_below : (set : List Component) (low : ℕ) → IsSet set → IsTableBelow low set (table_to set low)
unfolding table_to
table_below set zero is = record { rise = tt; below = tt; each = tt; whole = λ s lt some. absurd (omega arith) }
table_below set (suc s) is =
    let e : s + 1 ≡ suc s = omega arith in
    subst (λ n. IsTableBelow n set (table_to set s ++ option_to_list (option_map (merged set) (definition_of set s)))) e
    (below_more set (table_to set s) s (definition_of set s) (exports_have_symbols set is.components) refl (table_below set s is))

-- the set's own table, where no symbol is left
pub table_all : (set : List Component) (low : ℕ) → IsSet set → ((s : ℕ) → low ≤ s → definition_of set s ≡ None) → IsTableOf set (table_to set low)
table_all set low is none =
    let t = table_below set low is in
    record {
      rise = t.rise;
      each = t.each;
      whole = λ s some. elim (cases_lt s low) [
        | inl lt ↦ t.whole s lt some
        | inr le ↦ absurd (let gone : is_some (definition_of set s) ≡ false = ap (λ (o : Option (ℕ × Export)). is_some o) (none s le) in let bad = sym gone ∙ some in cc)
      ];
    }

-- no symbol is left from 65,536 on
pub none_high : (set : List Component) (s : ℕ) → IsSet set → 2 ^ 16 ≤ s → definition_of set s ≡ None
none_high set s is high = go (definition_of set s) refl
  where
    go : (d : Option (ℕ × Export)) → definition_of set s ≡ d → d ≡ None
    go None e = refl
    go (Some x) e =
        let has = definition_has set HasSymbol s x (exports_have_symbols set is.components) e in
        absurd (omega (arith, has.high, definition_symbol set s x e, high))

-- ---- how many records there are

-- no more than the set has symbols
pub table_few : (set : List Component) (low : ℕ) → IsSet set → length (table_to set low) ≤ length (distinct (symbols_of set))
table_few set low is = let t = table_below set low is in not_more 16 (table_to set low) (symbols_of set) t.rise (all_occur set (table_to set low) t.each)

one_fewer : (s : ℕ) (xs : List ℕ) → occurs s xs ≡ true → length (without s xs) + 1 ≤ length xs
one_fewer s [] e = absurd cc
one_fewer s (x ∷ xs) e =
    elim (cases_Bool (eqb x s)) [
      | inl hit ↦ rw hit (let le = not_longer s xs in omega (arith, le))
      | inr miss ↦ rw miss (let rest = one_fewer s xs (rw miss at e) in omega (arith, rest))
    ]
  where
    not_longer : (s : ℕ) (xs : List ℕ) → length (without s xs) ≤ length xs
    not_longer s [] = omega arith
    not_longer s (x ∷ xs) =
        let rest = not_longer s xs in
        elim (cases_Bool (eqb x s)) [ inl hit ↦ rw hit (omega (arith, rest)) | inr miss ↦ rw miss (omega (arith, rest)) ]

-- as many different numbers as a list has that all of them occur in
covered : (ss xs : List ℕ) → ((t : ℕ) → occurs t ss ≡ true → occurs t xs ≡ true) → length (distinct ss) ≤ length xs
covered [] xs all = omega arith
covered (s ∷ ss) xs all =
    elim (cases_Bool (occurs s ss)) [
      | inl again ↦ rw again (covered ss xs (λ t here. all t (rw here (or-true (eqb s t)))))
      | inr new ↦
          let there = one_fewer s xs (all s (rw (eq-eqb s s refl) refl)) in
          let rest : length (distinct ss) ≤ length (without s xs) = covered ss (without s xs) (λ t here. without_other s t xs (other new t here) ∙ all t (rw here (or-true (eqb s t)))) in
          rw new (omega (arith, there, rest))
    ]
  where
    other : occurs s ss ≡ false → (t : ℕ) → occurs t ss ≡ true → eqb t s ≡ false
    other new t here =
        elim (cases_eq t s) [
          | inl same ↦ absurd (let bad : false ≡ true = sym new ∙ ap (λ n. occurs n ss) (sym same) ∙ here in cc)
          | inr apart ↦ ne_eqb t s apart
        ]

found : {X : Type 0} (p : X → Bool) (xs : List X) → list_any p xs ≡ true → is_some (find p xs) ≡ true
found p [] e = absurd cc
found p (x ∷ xs) e = elim (cases_Bool (p x)) [ inl hit ↦ rw hit refl | inr miss ↦ rw miss (found p xs (rw miss at e)) ]

some_or : {X : Type 0} (a b : Option X) → is_some b ≡ true → is_some (option_or a b) ≡ true
some_or None b e = e
some_or (Some x) b e = refl

-- as many as the set has symbols, where it is the set's own table
pub table_counts : (set : List Component) (low : ℕ) → IsSet set → ((s : ℕ) → low ≤ s → definition_of set s ≡ None) → length (table_to set low) ≡ length (distinct (symbols_of set))
table_counts set low is none =
    let table : List MergedSymbol = table_to set low in
    let own = table_all set low is none in
    let symbols : List ℕ = map (λ r. r.symbol) table in
    let least : length (distinct (symbols_of set)) ≤ length symbols = covered (symbols_of set) symbols (λ t here.
    let any = sym (any_map (λ s. eqb s t) (λ (x : ℕ × Export). x.1.symbol) (exports_of set)) ∙ here in
    let some = some_or (find (is_strong_export_of t) (exports_of set)) (find (λ x. eqb x.1.symbol t) (exports_of set)) (found (λ x. eqb x.1.symbol t) (exports_of set) any) in
    any_map (λ s. eqb s t) (λ (r : MergedSymbol). r.symbol) table ∙ own.whole t some) in
    let most = table_few set low is in
    let size : length symbols ≡ length table = length-map table (λ r. r.symbol) in
    omega (arith, least, most, size)
