-- A set's own table has no more records than the set has symbols.
use Rattle.std.proofs.Common.{◌≡◌, ℕ, ◌+◌, ◌<◌, ◌≤◌, inl, inr, Bool, true, false, eqb, List, [], ◌∷◌, length, Option, Some, None, refl, cond, sym, ap, subst, ◌∙◌, arith}
use Rattle.std.specs.Prelude.{◌||◌, not}
use Rattle.std.specs.Option.{option_map, option_or}
use Rattle.std.specs.List.{list_any, filter, find, AllByRecursion}
use Rattle.std.proofs.lemmas.Bool.{cases_Bool, eqb-true}
use Rattle.component_package.specs.declared.part.Export.{Export}
use Rattle.component_package.specs.packages.Component.{Component}
use Rattle.component_package.specs.link.Link.{Cause, FlashFull, RamFull, Symbols, IsLate, link_cause, room_cause, symbols_cause, rooms_of, exports_of, symbols_of, is_strong_export_of, definition_of, distinct}
use Rattle.component_package.specs.link.Layout.{code_total, init_total, bss_total}
use Rattle.component_package.specs.link.Areas.{MergedSymbol, SymbolsRise, table_bytes, Tells}
use Rattle.component_package.specs.link.Pages.{merged, IsTableOf}
use Rattle.component_package.specs.link.Sets.{IsSet}
use Rattle.link_laws.proofs.Law.{any_map}
use Rattle.link_laws.proofs.Table.{definition_symbol, either, same_symbol}
use Rattle.link_laws.proofs.Room.{table_has_room}
use Rattle.link_laws.proofs.Own.{not_above}

-- ---- Lists of symbols

-- a symbol is in a list
abbrev pub occurs : ℕ → List ℕ → Bool
occurs u ss = list_any (λ t. eqb t u) ss

-- the others
abbrev pub without : ℕ → List ℕ → List ℕ
without u ss = filter (λ t. not (eqb t u)) ss

-- a greater symbol is another
differ : (m n : ℕ) → n < m → eqb m n ≡ false
differ m n lt = grind arith

-- two symbols differ both ways
differ_back : (m n : ℕ) → eqb m n ≡ false → eqb n m ≡ false
differ_back m n e = grind arith

-- without a symbol that does not occur, all stay
without_none : (u : ℕ) (ss : List ℕ) → occurs u ss ≡ false → without u ss ≡ ss
without_none u [] e = refl
without_none u (s ∷ ss) e =
    elim (cases_Bool (eqb s u)) [
      | inl hit ↦ absurd (let f = rw hit at e in cc)
      | inr miss ↦ rw miss (ap (λ (ts : List ℕ). s ∷ ts) (without_none u ss (rw miss at e)))
    ]

-- another symbol stays
pub without_other : (u s : ℕ) (ss : List ℕ) → eqb s u ≡ false → occurs s (without u ss) ≡ occurs s ss
without_other u s [] e = refl
without_other u s (t ∷ ts) e =
    elim (cases_Bool (eqb t u)) [
      | inl hit ↦
          let other : eqb t s ≡ false = subst (λ n. eqb n s ≡ false) (sym (eqb-true t u hit)) (differ_back s u e) in
          rw (hit, other) (without_other u s ts e)
      | inr miss ↦ rw miss (ap (λ b. eqb t s || b) (without_other u s ts e))
    ]

-- without a symbol that occurs there is one different symbol fewer
pub fewer : (u : ℕ) (ss : List ℕ) → occurs u ss ≡ true → length (distinct (without u ss)) + 1 ≡ length (distinct ss)
fewer u [] e = absurd cc
fewer u (s ∷ ss) e =
    elim (cases_Bool (eqb s u)) [
      | inl hit ↦ let same : s ≡ u = eqb-true s u hit in
          elim (cases_Bool (occurs u ss)) [
            | inl there ↦ let old : occurs s ss ≡ true = subst (λ n. occurs n ss ≡ true) (sym same) there in rw (hit, old) (fewer u ss there)
            | inr gone ↦ let new : occurs s ss ≡ false = subst (λ n. occurs n ss ≡ false) (sym same) gone in rw (hit, new, without_none u ss gone) (omega arith)
          ]
      | inr miss ↦
          let rest = fewer u ss (rw miss at e) in
          let kept = without_other u s ss miss in
          elim (cases_Bool (occurs s ss)) [
            | inl old ↦ rw (miss, kept, old) rest
            | inr new ↦ rw (miss, kept, new) (omega (arith, rest))
          ]
    ]

-- ---- Records of different symbols

-- the symbols of later records stay
later_occur : (u low : ℕ) (rs : List MergedSymbol) (ss : List ℕ) → u < low → SymbolsRise low rs → AllByRecursion (λ r. occurs r.symbol ss ≡ true) rs
    → AllByRecursion (λ r. occurs r.symbol (without u ss) ≡ true) rs
later_occur u low [] ss lt rise all = tt
later_occur u low (r ∷ rs) ss lt rise all =
    (without_other u r.symbol ss (differ r.symbol u (omega (arith, lt, rise.0))) ∙ all.0, later_occur u (r.symbol + 1) rs ss (omega (arith, lt, rise.0)) rise.1 all.1)

-- there are no more records than different symbols
pub not_more : (low : ℕ) (rs : List MergedSymbol) (ss : List ℕ) → SymbolsRise low rs → AllByRecursion (λ r. occurs r.symbol ss ≡ true) rs → length rs ≤ length (distinct ss)
not_more low [] ss rise all = omega arith
not_more low (r ∷ rs) ss rise all =
    let rest = not_more (r.symbol + 1) rs (without r.symbol ss) rise.1 (later_occur r.symbol (r.symbol + 1) rs ss (omega arith) rise.1 all.1) in
    omega (arith, rest, fewer r.symbol ss all.0)

-- ---- The symbols of a table

-- what is found and passes another test too
found_any : {X : Type 0} (p q : X → Bool) (xs : List X) (x : X) → find p xs ≡ Some x → q x ≡ true → list_any q xs ≡ true
found_any p q [] x e f = absurd cc
found_any p q (y ∷ ys) x e f =
    elim (cases_Bool (p y)) [
      | inl hit ↦ let same : y ≡ x = (let g = rw hit at e in cc) in let here : q y ≡ true = subst (λ z. q z ≡ true) (sym same) f in rw here refl
      | inr miss ↦ elim (cases_Bool (q y)) [ inl here ↦ rw here refl | inr other ↦ rw other (found_any p q ys x (rw miss at e) f) ]
    ]

-- a symbol that is defined is exported
defined_occurs : (set : List Component) (s : ℕ) (x : ℕ × Export) → definition_of set s ≡ Some x → occurs s (symbols_of set) ≡ true
defined_occurs set s x e =
    let same : eqb x.1.symbol s ≡ true = subst (λ n. eqb n s ≡ true) (sym (definition_symbol set s x e)) (same_symbol s) in
    any_map (λ t. eqb t s) (λ (y : ℕ × Export). y.1.symbol) (exports_of set)
    ∙ elim (either (find (is_strong_export_of s) (exports_of set)) (find (λ y. eqb y.1.symbol s) (exports_of set)) x e) [
      | inl strong ↦ found_any (is_strong_export_of s) (λ y. eqb y.1.symbol s) (exports_of set) x strong same
      | inr any ↦ found_any (λ y. eqb y.1.symbol s) (λ y. eqb y.1.symbol s) (exports_of set) x any same
    ]

-- so is that of a record
given_occurs : (set : List Component) (s : ℕ) (d : Option (ℕ × Export)) (r : MergedSymbol) → definition_of set s ≡ d → option_map (merged set) d ≡ Some r → occurs s (symbols_of set) ≡ true
given_occurs set s None r e f = absurd cc
given_occurs set s (Some x) r e f = defined_occurs set s x e

-- and those of all records
pub all_occur : (set : List Component) (rs : List MergedSymbol) → AllByRecursion (λ r. option_map (merged set) (definition_of set r.symbol) ≡ Some r) rs
    → AllByRecursion (λ r. occurs r.symbol (symbols_of set) ≡ true) rs
all_occur set [] each = tt
all_occur set (r ∷ rs) each = (given_occurs set r.symbol (definition_of set r.symbol) r refl each.0, all_occur set rs each.1)

-- ---- Late causes

-- a cause that comes before the late ones
abbrev Early : Option Cause → Type 0
Early o = IsLate o → o ≡ None

-- one above a limit does, where its kind does
early_above : (b : Bool) (cause : Cause) → (IsLate (Some cause) → ⊥) → Early (cond b (Some cause) None)
early_above true cause never late = absurd (never late)
early_above false cause never late = refl

-- the first of two that do
early_or : (a b : Option Cause) → Early a → Early b → Early (option_or a b)
early_or None b first second = second
early_or (Some c) b first second = first

-- where the first of two is late, the former is none if it comes before the late ones
late_both : (a b : Option Cause) → Early a → IsLate (option_or a b) → (a ≡ None) × IsLate b
late_both None b early late = (refl, late)
late_both (Some c) b early late = absurd (let none = early late in cc)

-- a set with a late cause, or with none, has room, and not too many symbols
few_symbols : (set : List Component) → IsLate (link_cause set) → (room_cause (rooms_of set) ≡ None) × (symbols_cause set ≡ None)
unfolding link_cause
few_symbols set late =
    let rooms = rooms_of set in
    let room = late_both (room_cause rooms) _ (early_or _ _ (early_above _ (FlashFull (code_total rooms + init_total rooms)) (λ no. no)) (early_above _ (RamFull (init_total rooms + bss_total rooms)) (λ no. no))) late in
    let symbols = late_both (symbols_cause set) _ (early_above _ (Symbols (length (distinct (symbols_of set)))) (λ no. no)) room.1 in
    (room.0, symbols.0)

-- the own table of a set that nothing refuses, but for a late cause, is a symbol table
pub own_table : (set : List Component) (table : List MergedSymbol) → IsSet set → IsLate (link_cause set) → IsTableOf set table → Tells (table_bytes table) table
own_table set table is late t =
    let no = few_symbols set late in
    record {
      few = omega (arith, not_more 16 table (symbols_of set) t.rise (all_occur set table t.each), not_above 1024 Symbols (length (distinct (symbols_of set))) _ refl no.1);
      symbols = table_has_room set table is no.0 t;
      rise = t.rise;
      spelled = refl;
    }
