-- Symbols with two exporters that are not weak.
use Rattle.std.proofs.Common.{◌≡◌, ℕ, suc, ◌<◌, ◌≤◌, ◌⊎◌, inl, inr, Bool, true, false, eqb, List, [], ◌∷◌, length, map, min, Option, Some, None, refl, sym, ap, subst, ◌∙◌, arith}
use Rattle.std.specs.Prelude.{nat_le}
use Rattle.std.specs.Option.{option_and_then, option_or}
use Rattle.std.specs.List.{list_any, find, filter, fold, AllByRecursion}
use Rattle.std.proofs.lemmas.Bool.{cases_Bool, cases_lt, eqb-true, le-leb, or_cases}
use Rattle.component_package.specs.declared.part.Export.{Export}
use Rattle.component_package.specs.packages.Component.{Component}
use Rattle.component_package.specs.link.Link.{Cause, Duplicate, exports_of, symbols_of, is_strong_export_of, definition_of, strong_exporters, least_of, first_two, duplicate_cause}
use Rattle.link_laws.proofs.Law.{any_map}
use Rattle.link_laws.proofs.Few.{occurs}
use Rattle.kept_symbols.specs.Records.{NoneTwice, NoneFrom}

-- ---- the least number of a list

fold_least : (s a : ℕ) (ss : List ℕ) → s ≤ a → AllByRecursion (λ t. s ≤ t) ss → (a ≡ s) ⊎ (occurs s ss ≡ true) → fold min a ss ≡ s
fold_least s a [] le low (inl e) = e
fold_least s a [] le low (inr any) = absurd cc
fold_least s a (t ∷ ts) le low (inl e) = fold_least s (min a t) ts (omega (arith, le, low.0)) low.1 (inl (omega (arith, e, low.0)))
fold_least s a (t ∷ ts) le low (inr any) =
    elim (or_cases (eqb t s) (occurs s ts) any) [
      | inl here ↦ fold_least s (min a t) ts (omega (arith, le, low.0)) low.1 (inl (omega (arith, le, eqb-true t s here)))
      | inr there ↦ fold_least s (min a t) ts (omega (arith, le, low.0)) low.1 (inr there)
    ]

least_is : (s : ℕ) (ss : List ℕ) → AllByRecursion (λ t. s ≤ t) ss → occurs s ss ≡ true → least_of ss ≡ Some s
least_is s [] low any = absurd cc
least_is s (t ∷ ts) low any =
    elim (or_cases (eqb t s) (occurs s ts) any) [
      | inl here ↦ ap Some (fold_least s t ts low.0 low.1 (inl (eqb-true t s here)))
      | inr there ↦ ap Some (fold_least s t ts low.0 low.1 (inr there))
    ]

-- ---- filters

any_kept : (q : ℕ → Bool) (s : ℕ) (ss : List ℕ) → q s ≡ true → occurs s ss ≡ true → occurs s (filter q ss) ≡ true
any_kept q s [] pass any = absurd cc
any_kept q s (t ∷ ts) pass any =
    elim (or_cases (eqb t s) (occurs s ts) any) [
      | inl here ↦ let hit : q t ≡ true = subst (λ u. q u ≡ true) (sym (eqb-true t s here)) pass in rw (hit, here) refl
      | inr there ↦ elim (cases_Bool (q t)) [
        | inl hit ↦ elim (cases_Bool (eqb t s)) [ inl y ↦ rw (hit, y) refl | inr n ↦ rw (hit, n) (any_kept q s ts pass there) ]
        | inr miss ↦ rw miss (any_kept q s ts pass there)
      ]
    ]

low_kept : (q : ℕ → Bool) (s : ℕ) → ((t : ℕ) → t < s → q t ≡ false) → (ss : List ℕ) → AllByRecursion (λ t. s ≤ t) (filter q ss)
low_kept q s below [] = tt
low_kept q s below (t ∷ ts) =
    elim (cases_Bool (q t)) [
      | inl hit ↦ rw hit (elim (cases_lt t s) [ inl lt ↦ absurd (let e = below t lt in cc) | inr ge ↦ omega (arith, ge) ], low_kept q s below ts)
      | inr miss ↦ rw miss (low_kept q s below ts)
    ]

none_kept : (q : ℕ → Bool) → ((t : ℕ) → q t ≡ false) → (ss : List ℕ) → filter q ss ≡ []
none_kept q none [] = refl
none_kept q none (t ∷ ts) = rw (none t) (none_kept q none ts)

-- ---- of a set

none_strong : (s : ℕ) (xs : List (ℕ × Export)) → find (λ x. eqb x.1.symbol s) xs ≡ None → filter (is_strong_export_of s) xs ≡ []
none_strong s [] e = refl
none_strong s (x ∷ xs) e =
    elim (cases_Bool (eqb x.1.symbol s)) [
      | inl hit ↦ absurd (let f = rw hit at e in cc)
      | inr miss ↦ rw miss (none_strong s xs (rw miss at e))
    ]

or_none : {X : Type 0} (a b : Option X) → option_or a b ≡ None → b ≡ None
or_none None b e = e
or_none (Some x) b e = absurd cc

-- what isn't defined has no exporter
undefined_once : (set : List Component) (s : ℕ) → definition_of set s ≡ None → nat_le 2 (length (strong_exporters set s)) ≡ false
undefined_once set s none =
    ap (λ (xs : List (ℕ × Export)). nat_le 2 (length (map (λ x. x.0) xs)))
    (none_strong s (exports_of set) (or_none (find (is_strong_export_of s) (exports_of set)) (find (λ x. eqb x.1.symbol s) (exports_of set)) none))

-- none twice up to a symbol where none is between, and behind it where it has one exporter
pub single_on : (set : List Component) (low s : ℕ) → low ≤ s → ((t : ℕ) → low ≤ t → t < s → definition_of set t ≡ None) → NoneTwice set low → NoneTwice set s
single_on set low s le none single t lt = elim (cases_lt t low) [ inl below ↦ single t below | inr from ↦ undefined_once set t (none t from lt) ]

few_strong : (s : ℕ) (ks : List ℕ) → first_two s ks ≡ None → nat_le 2 (length ks) ≡ false
few_strong s [] e = refl
few_strong s (i ∷ []) e = refl
few_strong s (i ∷ j ∷ ks) e = absurd cc

pub single_more : (set : List Component) (s : ℕ) → first_two s (strong_exporters set s) ≡ None → NoneTwice set s → NoneTwice set (suc s)
single_more set s one single t lt =
    elim (cases_lt t s) [
      | inl below ↦ single t below
      | inr from ↦ let e : s ≡ t = omega (arith, lt, from) in subst (λ u. nat_le 2 (length (strong_exporters set u)) ≡ false) e (few_strong s (strong_exporters set s) one)
    ]

-- none at all
pub single_all : (set : List Component) (low : ℕ) → NoneFrom set low → NoneTwice set low → duplicate_cause set ≡ None
single_all set low none single =
    let q : ℕ → Bool = λ s. nat_le 2 (length (strong_exporters set s)) in
    ap (λ (ss : List ℕ). option_and_then (λ s. first_two s (strong_exporters set s)) (least_of ss))
    (none_kept q (λ t. elim (cases_lt t low) [ inl below ↦ single t below | inr from ↦ undefined_once set t (none t from) ]) (symbols_of set))

two_strong : (s : ℕ) (ks : List ℕ) (c : Cause) → first_two s ks ≡ Some c → nat_le 2 (length ks) ≡ true
two_strong s [] c e = absurd cc
two_strong s (i ∷ []) c e = absurd cc
two_strong s (i ∷ j ∷ ks) c e = le-leb 2 (length (i ∷ j ∷ ks)) (omega arith)

any_found : (s : ℕ) (xs : List (ℕ × Export)) (k : List ℕ) → map (λ x. x.0) (filter (is_strong_export_of s) xs) ≡ k → nat_le 2 (length k) ≡ true → list_any (λ x. eqb x.1.symbol s) xs ≡ true
any_found s xs k is two = go xs (subst (λ l. nat_le 2 (length l) ≡ true) (sym is) two)
  where
    go : (xs : List (ℕ × Export)) → nat_le 2 (length (map (λ (x : ℕ × Export). x.0) (filter (is_strong_export_of s) xs))) ≡ true → list_any (λ x. eqb x.1.symbol s) xs ≡ true
    go [] e = absurd cc
    go (x ∷ xs) e = elim (cases_Bool (eqb x.1.symbol s)) [ inl hit ↦ rw hit refl | inr miss ↦ rw miss (go xs (rw miss at e)) ]

-- the first symbol that has two
pub first_twice : (set : List Component) (s i j : ℕ) → NoneTwice set s → first_two s (strong_exporters set s) ≡ Some (Duplicate s i j) → duplicate_cause set ≡ Some (Duplicate s i j)
first_twice set s i j single two =
    let q : ℕ → Bool = λ t. nat_le 2 (length (strong_exporters set t)) in
    let hit : q s ≡ true = two_strong s (strong_exporters set s) (Duplicate s i j) two in
    let there : occurs s (symbols_of set) ≡ true = any_map (λ t. eqb t s) (λ (x : ℕ × Export). x.1.symbol) (exports_of set) ∙ any_found s (exports_of set) (strong_exporters set s) refl hit in
    let least = least_is s (filter q (symbols_of set)) (low_kept q s single (symbols_of set)) (any_kept q s (symbols_of set) hit there) in
    ap (λ (o : Option ℕ). option_and_then (λ t. first_two t (strong_exporters set t)) o) least ∙ two
