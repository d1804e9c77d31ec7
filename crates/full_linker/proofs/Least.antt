-- The least symbol with two exporters that are not weak.
use Rattle.std.proofs.Common.{◌≡◌, ℕ, ◌<◌, ◌≤◌, ◌^◌, ◌⊎◌, inl, inr, Bool, true, false, eqb, List, [], ◌∷◌, length, map, min, Option, Some, None, refl, sym, ap, subst, ◌∙◌, arith}
use Rattle.std.specs.Prelude.{nat_le}
use Rattle.std.specs.Option.{option_and_then, option_map, option_or}
use Rattle.std.specs.Ordering.{nat_cmp, is_eq}
use Rattle.std.specs.declared.cmp.Ordering.TheVariants.{Less}
use Rattle.std.specs.Map.{lookup, keys_of}
use Rattle.std.specs.BTreeMap.{BTreeMap, get, is_at, IsOrdered}
use Rattle.std.specs.List.Sorted.{IsStrictlySortedBy}
use Rattle.std.specs.List.{list_any, find, filter, fold, AllByRecursion}
use Rattle.std.proofs.lemmas.Bool.{cases_Bool, cases_lt, eqb-true, or_cases}
use Rattle.component_package.specs.declared.part.Export.{Export}
use Rattle.component_package.specs.packages.Component.{Component}
use Rattle.component_package.specs.packages.Grammar.{IsComponent}
use Rattle.component_package.specs.link.Link.{Cause, Duplicate, first_cause, exports_of, symbols_of, is_strong_export_of, strong_exporters, least_of, first_two, duplicate_cause}
use Rattle.full_linker.specs.declared.symbols.Slot.{Slot}
use Rattle.full_linker.specs.Slots.{second_of, slot_of, twice_of, AreSlots}
use Rattle.full_linker.proofs.Basics.{same_at, at_same, below_at}
use Rattle.full_linker.proofs.Slots.{find_some_filter, none_found, kept_is, none_kept}
use Rattle.link_laws.proofs.Table.{HasSymbol, exports_have_symbols}

-- ---- The least number

-- none is below s
abbrev Low : ℕ → List ℕ → Type 0
Low s ss = AllByRecursion (λ t. s ≤ t) ss

-- the least so far, with those to come
fold_least : (s a : ℕ) (ss : List ℕ) → s ≤ a → Low s ss → (a ≡ s) ⊎ (list_any (λ t. eqb t s) ss ≡ true) → fold min a ss ≡ s
fold_least s a [] le low (inl e) = e
fold_least s a [] le low (inr any) = absurd cc
fold_least s a (t ∷ ts) le low (inl e) = fold_least s (min a t) ts (omega (arith, le, low.0)) low.1 (inl (omega (arith, e, low.0)))
fold_least s a (t ∷ ts) le low (inr any) =
    elim (or_cases (eqb t s) (list_any (λ u. eqb u s) ts) any) [
      | inl here ↦ fold_least s (min a t) ts (omega (arith, le, low.0)) low.1 (inl (omega (arith, le, eqb-true t s here)))
      | inr there ↦ fold_least s (min a t) ts (omega (arith, le, low.0)) low.1 (inr there)
    ]

-- a number of the list that none is below is its least
least_is : (s : ℕ) (ss : List ℕ) → Low s ss → list_any (λ t. eqb t s) ss ≡ true → least_of ss ≡ Some s
least_is s [] low any = absurd cc
least_is s (t ∷ ts) low any =
    elim (or_cases (eqb t s) (list_any (λ u. eqb u s) ts) any) [
      | inl here ↦ ap Some (fold_least s t ts low.0 low.1 (inl (eqb-true t s here)))
      | inr there ↦ ap Some (fold_least s t ts low.0 low.1 (inr there))
    ]

-- ---- Filters

-- what passes the test is kept
any_kept : (q : ℕ → Bool) (s : ℕ) (ss : List ℕ) → q s ≡ true → list_any (λ t. eqb t s) ss ≡ true → list_any (λ t. eqb t s) (filter q ss) ≡ true
any_kept q s [] pass any = absurd cc
any_kept q s (t ∷ ts) pass any =
    elim (or_cases (eqb t s) (list_any (λ u. eqb u s) ts) any) [
      | inl here ↦ let e : t ≡ s = eqb-true t s here in let hit : q t ≡ true = subst (λ u. q u ≡ true) (sym e) pass in rw (hit, here) refl
      | inr there ↦ elim (cases_Bool (q t)) [
        | inl hit ↦ elim (cases_Bool (eqb t s)) [ inl y ↦ rw (hit, y) refl | inr n ↦ rw (hit, n) (any_kept q s ts pass there) ]
        | inr miss ↦ rw miss (any_kept q s ts pass there)
      ]
    ]

-- where nothing below s passes, nothing kept is below
low_kept : (q : ℕ → Bool) (s : ℕ) → ((t : ℕ) → t < s → q t ≡ false) → (ss : List ℕ) → Low s (filter q ss)
low_kept q s below [] = tt
low_kept q s below (t ∷ ts) =
    elim (cases_Bool (q t)) [
      | inl hit ↦ rw hit (elim (cases_lt t s) [ inl lt ↦ absurd (let e = below t lt in cc) | inr ge ↦ omega (arith, ge) ], low_kept q s below ts)
      | inr miss ↦ rw miss (low_kept q s below ts)
    ]

-- where nothing passes, nothing is kept
none_left : (q : ℕ → Bool) (n : ℕ) → ((t : ℕ) → t < n → q t ≡ false) → (ss : List ℕ) → AllByRecursion (λ t. t < n) ss → filter q ss ≡ []
none_left q n none [] small = refl
none_left q n none (t ∷ ts) small = rw (none t small.0) (none_left q n none ts small.1)

-- ---- Exporters

-- the component of the second export of a symbol that is not weak
abbrev pub second_at : List Component → ℕ → Option ℕ
second_at set s = (slot_of (exports_of set) s).second

-- two components export a symbol not weakly
abbrev has_two : List Component → ℕ → Bool
has_two set s = nat_le 2 (length (strong_exporters set s))

-- without a second there are fewer than two
no_second : (is : List ℕ) → second_of is ≡ None → nat_le 2 (length is) ≡ false
no_second [] e = refl
no_second (i ∷ []) e = refl
no_second (i ∷ j ∷ is) e = absurd cc

-- with a second there are at least two
two : (is : List ℕ) (j : ℕ) → second_of is ≡ Some j → nat_le 2 (length is) ≡ true
two [] j e = absurd cc
two (i ∷ []) j e = absurd cc
two (i ∷ k ∷ is) j e = grind arith

-- the first two are the first and the second
first_two_are : (s i j : ℕ) (is : List ℕ) → second_of (i ∷ is) ≡ Some j → first_two s (i ∷ is) ≡ Some (Duplicate s i j)
first_two_are s i j [] e = absurd cc
first_two_are s i j (k ∷ is) e = let same : k ≡ j = cc in ap (λ n. Some (Duplicate s i n)) same

-- an exported symbol is one of the set
any_export : (s : ℕ) (x : ℕ × Export) (xs : List (ℕ × Export)) → find (is_strong_export_of s) xs ≡ Some x → list_any (λ t. eqb t s) (map (λ y. y.1.symbol) xs) ≡ true
any_export s x [] e = absurd cc
any_export s x (y ∷ ys) e =
    elim (cases_Bool (eqb y.1.symbol s)) [
      | inl hit ↦ rw hit refl
      | inr miss ↦ rw miss (any_export s x ys (rw miss at e))
    ]

-- the first symbol at which a second exporter stands is the one
pub duplicate_at : (set : List Component) (s j : ℕ) (x : ℕ × Export) → ((t : ℕ) → t < s → second_at set t ≡ None) → (slot_of (exports_of set) s).strong ≡ Some x → second_at set s ≡ Some j
    → duplicate_cause set ≡ Some (Duplicate s x.0 j)
duplicate_at set s j x below strong second =
    let starts = find_some_filter (is_strong_export_of s) (exports_of set) x strong in
    let exporters : strong_exporters set s ≡ x.0 ∷ map (λ y. y.0) starts.rest = ap (map (λ (y : ℕ × Export). y.0)) starts.is in
    let least : least_of (filter (has_two set) (symbols_of set)) ≡ Some s =
    least_is s (filter (has_two set) (symbols_of set)) (low_kept (has_two set) s (λ t lt. no_second (strong_exporters set t) (below t lt)) (symbols_of set))
    (any_kept (has_two set) s (symbols_of set) (two (strong_exporters set s) j second) (any_export s x (exports_of set) strong)) in
    ap (option_and_then (λ t. first_two t (strong_exporters set t))) least ∙ ap (first_two s) exporters
    ∙ first_two_are s x.0 j (map (λ y. y.0) starts.rest) (sym (ap second_of exporters) ∙ second)

-- symbols have two bytes
symbols_small : (xs : List (ℕ × Export)) → AllByRecursion HasSymbol xs → AllByRecursion (λ t. t < 2 ^ 16) (map (λ y. y.1.symbol) xs)
symbols_small [] all = tt
symbols_small (x ∷ xs) all = (all.0.high, symbols_small xs all.1)

-- where there is no second exporter anywhere, there is no such symbol
pub no_duplicate : (set : List Component) → AllByRecursion IsComponent set → ((t : ℕ) → t < 2 ^ 16 → second_at set t ≡ None) → duplicate_cause set ≡ None
no_duplicate set components none =
    ap (λ (ss : List ℕ). option_and_then (λ t. first_two t (strong_exporters set t)) (least_of ss))
    (none_left (has_two set) (2 ^ 16) (λ t lt. no_second (strong_exporters set t) (none t lt)) (symbols_of set) (symbols_small (exports_of set) (exports_have_symbols set components)))

-- without a first there is no second
pub no_strong : (set : List Component) (t : ℕ) → (slot_of (exports_of set) t).strong ≡ None → second_at set t ≡ None
no_strong set t e = ap (λ xs. second_of (map (λ x. x.0) xs)) (none_found (is_strong_export_of t) (exports_of set) e)

-- the components of a first and of a second
abbrev both_of : Option (ℕ × Export) → Option ℕ → Option (ℕ × ℕ)
both_of strong second = option_and_then (λ x. option_map (λ j. (x.0, j)) second) strong

-- without a first or without a second
twice_is : (strong : Option (ℕ × Export)) (second : Option ℕ) → both_of strong second ≡ None → (strong ≡ None → second ≡ None) → second ≡ None
twice_is None second e h = h refl
twice_is (Some x) None e h = refl
twice_is (Some x) (Some j) e h = absurd cc

-- a slot without two exports that are not weak has no second
no_twice : (set : List Component) (t : ℕ) → twice_of (slot_of (exports_of set) t) ≡ None → second_at set t ≡ None
no_twice set t e = twice_is (slot_of (exports_of set) t).strong (slot_of (exports_of set) t).second e (no_strong set t)

-- ---- The entries of a map, in order

-- two exports that are not weak, as a cause
abbrev pub twice_at : ℕ × Slot → Option Cause
twice_at e = option_map (λ p. Duplicate e.0 p.0 p.1) (twice_of e.1)

-- nothing comes of nothing
mapped_none : {X Y : Type 0} (f : X → Y) (o : Option X) → option_map f o ≡ None → o ≡ None
mapped_none f None e = refl
mapped_none f (Some x) e = absurd cc

-- neither of two
or_none : {X : Type 0} (a b : Option X) → option_or a b ≡ None → (a ≡ None) × (b ≡ None)
or_none None b e = (refl, e)
or_none (Some x) b e = absurd cc

-- an entry without two is passed over
pub pass_over : (x : ℕ × Slot) (es : List (ℕ × Slot)) → twice_of x.1 ≡ None → first_cause twice_at (x ∷ es) ≡ first_cause twice_at es
pass_over x es e = ap (λ o. option_or (option_map (λ p. Duplicate x.0 p.0 p.1) o) (first_cause twice_at es)) e

-- one with two is the cause
pub stop_at : (x : ℕ × Slot) (es : List (ℕ × Slot)) (p : ℕ × ℕ) → twice_of x.1 ≡ Some p → first_cause twice_at (x ∷ es) ≡ Some (Duplicate x.0 p.0 p.1)
stop_at x es p e = ap (λ o. option_or (option_map (λ q. Duplicate x.0 q.0 q.1) o) (first_cause twice_at es)) e

-- an entry that is found in entries without a cause has none
found_none : (es : List (ℕ × Slot)) → first_cause twice_at es ≡ None → (t : ℕ) (z : Slot) → lookup (is_at (nat_cmp t)) es ≡ Some z → twice_of z ≡ None
found_none [] none t z e = absurd cc
found_none (x ∷ es) none t z e =
    let both = or_none (twice_at x) (first_cause twice_at es) none in
    elim (cases_Bool (is_eq (nat_cmp t x.0))) [
      | inl hit ↦ let same : x.1 ≡ z = (let f = rw hit at e in cc) in subst (λ (y : Slot). twice_of y ≡ None) same (mapped_none (λ p. Duplicate x.0 p.0 p.1) (twice_of x.1) both.0)
      | inr miss ↦ found_none es both.1 t z (rw miss at e)
    ]

-- what is found behind a key is above it
found_above : (x t : ℕ) (z : Slot) (es : List (ℕ × Slot)) → AllByRecursion (λ y. nat_cmp x y ≡ Less) (keys_of es) → lookup (is_at (nat_cmp t)) es ≡ Some z → x < t
found_above x t z [] all e = absurd cc
found_above x t z (y ∷ es) all e =
    elim (cases_Bool (is_eq (nat_cmp t y.0))) [
      | inl hit ↦ subst (λ n. x < n) (sym (at_same t y.0 hit)) (below_at x y.0 all.0)
      | inr miss ↦ found_above x t z es all.1 (rw miss at e)
    ]

-- the least symbol with a cause
record IsFirst (es : List (ℕ × Slot)) (c : Cause) : Type 0 where
  symbol : ℕ
  slot : Slot
  here : lookup (is_at (nat_cmp symbol)) es ≡ Some slot
  cause : twice_at (symbol, slot) ≡ Some c
  before : (t : ℕ) → t < symbol → (z : Slot) → lookup (is_at (nat_cmp t)) es ≡ Some z → twice_of z ≡ None

-- what is found in entries, by the first of them
first_of_entries : (x : ℕ × Slot) (es : List (ℕ × Slot)) (c : Cause) → AllByRecursion (λ y. nat_cmp x.0 y ≡ Less) (keys_of es) → (o : Option Cause) → twice_at x ≡ o
    → option_or o (first_cause twice_at es) ≡ Some c → (first_cause twice_at es ≡ Some c → IsFirst es c) → IsFirst (x ∷ es) c
first_of_entries x es c above (Some d) is e rest = record {
  symbol = x.0;
  slot = x.1;
  here = rw (same_at x.0) refl;
  cause = is ∙ e;
  before = λ t lt z found. elim (cases_Bool (is_eq (nat_cmp t x.0))) [
    | inl hit ↦ absurd (omega (arith, lt, at_same t x.0 hit))
    | inr miss ↦ absurd (omega (arith, lt, found_above x.0 t z es above (rw miss at found)))
  ];
}
first_of_entries x es c above None is e rest =
    let r = rest e in
    record {
      symbol = r.symbol;
      slot = r.slot;
      here = elim (cases_Bool (is_eq (nat_cmp r.symbol x.0))) [
        | inl hit ↦ absurd (omega (arith, at_same r.symbol x.0 hit, found_above x.0 r.symbol r.slot es above r.here))
        | inr miss ↦ rw miss r.here
      ];
      cause = r.cause;
      before = λ t lt z found. elim (cases_Bool (is_eq (nat_cmp t x.0))) [
        | inl hit ↦ let same : x.1 ≡ z = (let f = rw hit at found in cc) in subst (λ (y : Slot). twice_of y ≡ None) same (mapped_none (λ p. Duplicate x.0 p.0 p.1) (twice_of x.1) is)
        | inr miss ↦ r.before t lt z (rw miss at found)
      ];
    }

-- the first cause of entries in order is that of the least symbol
first_is : (es : List (ℕ × Slot)) (c : Cause) → IsStrictlySortedBy nat_cmp (keys_of es) → first_cause twice_at es ≡ Some c → IsFirst es c
unfolding IsStrictlySortedBy
first_is [] c sorted e = absurd cc
first_is (x ∷ es) c sorted e = first_of_entries x es c sorted.0 (twice_at x) refl e (first_is es c sorted.1)

-- ---- The cause

-- nothing or something
nothing_or : {X : Type 0} (o : Option X) → (o ≡ None) ⊎ ((x : X) × (o ≡ Some x))
nothing_or None = inl refl
nothing_or (Some x) = inr (x, refl)

-- nothing twice in the map, nothing twice in the set
second_none : (set : List Component) (slots : BTreeMap ℕ Slot) → AreSlots (exports_of set) slots → (t : ℕ) → ((z : Slot) → get nat_cmp slots t ≡ Some z → twice_of z ≡ None) → second_at set t ≡ None
second_none set slots are t none =
    elim (nothing_or (get nat_cmp slots t)) [
      | inl gone ↦ sym (ap (λ (z : Slot). z.second) (none_kept (exports_of set) slots t are gone))
      | inr found ↦ no_twice set t (subst (λ (z : Slot). twice_of z ≡ None) (kept_is (exports_of set) slots t found.0 are found.1) (none found.0 found.1))
    ]

-- the cause of two exports
twice_parts : (s : ℕ) (strong : Option (ℕ × Export)) (second : Option ℕ) (c : Cause) → option_map (λ p. Duplicate s p.0 p.1) (both_of strong second) ≡ Some c
    → (x : ℕ × Export) × (j : ℕ) × (strong ≡ Some x) × (second ≡ Some j) × (Duplicate s x.0 j ≡ c)
twice_parts s None second c e = absurd cc
twice_parts s (Some x) None c e = absurd cc
twice_parts s (Some x) (Some j) c e = (x, j, refl, refl, (let same : Duplicate s x.0 j ≡ c = cc in same))

-- the first cause of the entries is the cause of the set
pub first_duplicate : (set : List Component) (slots : BTreeMap ℕ Slot) (c : Cause) → AreSlots (exports_of set) slots → IsOrdered nat_cmp slots → first_cause twice_at slots.entries ≡ Some c → duplicate_cause set ≡ Some c
first_duplicate set slots c are ordered e =
    let r = first_is slots.entries c ordered e in
    let is = kept_is (exports_of set) slots r.symbol r.slot are r.here in
    let p = twice_parts r.symbol r.slot.strong r.slot.second c r.cause in
    duplicate_at set r.symbol p.1 p.0 (λ t lt. second_none set slots are t (r.before t lt)) (ap (λ (z : Slot). z.strong) (sym is) ∙ p.2) (ap (λ (z : Slot). z.second) (sym is) ∙ p.3)
    ∙ ap Some p.4

-- and without one there is none
pub entries_none : (set : List Component) (slots : BTreeMap ℕ Slot) → AllByRecursion IsComponent set → AreSlots (exports_of set) slots → first_cause twice_at slots.entries ≡ None → duplicate_cause set ≡ None
entries_none set slots components are e = no_duplicate set components (λ t lt. second_none set slots are t (found_none slots.entries e t))
