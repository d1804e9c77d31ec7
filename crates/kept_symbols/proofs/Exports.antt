-- A component's exports and those of a set: what is found of a symbol where a cursor stands.
use Rattle.std.proofs.Common.{◌≡◌, ℕ, zero, suc, ◌+◌, ◌<◌, ◌≤◌, inl, inr, Bool, cond, eqb, List, [], ◌∷◌, ◌++◌, length, take, map, Option, Some, None, refl, sym, ap, ap₂, subst, ◌∙◌, arith, append_assoc}
use Rattle.std.specs.Prelude.{slice_get}
use Rattle.std.specs.List.{find, filter, flat_map, enumerate_from}
use Rattle.std.specs.Option.{option_or, option_map}
use Rattle.std.proofs.lemmas.Bool.{cases_Bool, cases_lt, cases_eq, eq-eqb, ne_eqb, lt-ltb, le-ltb}
use Rattle.std.proofs.lemmas.List.{append-nil}
use Rattle.component_package.specs.declared.part.Export.{Export}
use Rattle.component_package.specs.packages.Component.{Component}
use Rattle.component_package.specs.packages.Grammar.{ExportsRise}
use Rattle.component_package.specs.link.Link.{exports_of, is_strong_export_of, definition_of}
use Rattle.kept_symbols.specs.declared.cursor.Cursor.{Cursor}
use Rattle.kept_symbols.specs.Cursors.{cursor_at, has_symbol, is_strong_of, head_of, IsCursor}

-- ---- the exports of one component

-- the export of a symbol
abbrev pub own : ℕ → List Export → Option Export
own s es = find (λ e. eqb e.symbol s) es

one_more : {X : Type 0} (x : X) (xs : List X) (n : ℕ) → slice_get (x ∷ xs) (1 + n) ≡ slice_get xs n
one_more x xs n = let p : suc n ≡ 1 + n = omega arith in subst (λ (k : ℕ). slice_get (x ∷ xs) k ≡ slice_get xs n) p refl

-- a lesser symbol than all
pub own_later : (es : List Export) (m s : ℕ) → ExportsRise m es → s < m → own s es ≡ None
own_later [] m s rise lt = refl
own_later (e ∷ es) m s rise lt = rw (ne_eqb e.symbol s (omega (arith, rise.0, lt))) (own_later es (e.symbol + 1) s rise.1 (omega (arith, rise.0, lt)))

at_start : (es : List Export) (m low : ℕ) → ExportsRise m es → low ≤ m → cursor_at low es ≡ 0
at_start [] m low rise le = refl
at_start (e ∷ es) m low rise le = rw (le-ltb e.symbol low (omega (arith, rise.0, le))) refl

-- what is known of the export at a cursor
abbrev pub IsOwnFirst : (ℕ → Option Export) → ℕ → Option Export → Type 0
IsOwnFirst f low None = (s : ℕ) → low ≤ s → f s ≡ None
IsOwnFirst f low (Some e) = (low ≤ e.symbol) × (f e.symbol ≡ Some e) × ((s : ℕ) → low ≤ s → s < e.symbol → f s ≡ None)

-- one export more, of a lesser symbol than `low`
skipped : (e : Export) (es : List Export) (low : ℕ) (h : Option Export) → e.symbol < low → IsOwnFirst (λ s. own s es) low h → IsOwnFirst (λ s. own s (e ∷ es)) low h
skipped e es low None lt first = λ s le. rw (ne_eqb e.symbol s (omega (arith, lt, le))) (first s le)
skipped e es low (Some x) lt first = (first.0, rw (ne_eqb e.symbol x.symbol (omega (arith, lt, first.0))) first.1, λ s le below. rw (ne_eqb e.symbol s (omega (arith, lt, le))) (first.2 s le below))

-- the export at a cursor is the first from `low` on
pub own_first : (es : List Export) (m low : ℕ) → ExportsRise m es → IsOwnFirst (λ s. own s es) low (slice_get es (cursor_at low es))
own_first [] m low rise = λ s le. refl
own_first (e ∷ es) m low rise =
    elim (cases_lt e.symbol low) [
      | inl lt ↦ rw (lt-ltb e.symbol low lt, one_more e es (cursor_at low es)) (skipped e es low (slice_get es (cursor_at low es)) lt (own_first es (e.symbol + 1) low rise.1))
      | inr le ↦ rw (le-ltb e.symbol low le) (le, rw (eq-eqb e.symbol e.symbol refl) refl, λ s from below. rw (ne_eqb e.symbol s (omega (arith, below))) (own_later es (e.symbol + 1) s rise.1 (omega (arith, below))))
    ]

-- a cursor stands where it stood where no symbol is between
pub cursor_same : (es : List Export) (m low s : ℕ) → ExportsRise m es → low ≤ s → ((t : ℕ) → low ≤ t → t < s → own t es ≡ None) → cursor_at s es ≡ cursor_at low es
cursor_same [] m low s rise le none = refl
cursor_same (e ∷ es) m low s rise le none =
    elim (cases_lt e.symbol low) [
      | inl lt ↦
          let rest = cursor_same es (e.symbol + 1) low s rise.1 le (λ t from below. rw (ne_eqb e.symbol t (omega (arith, lt, from))) at (none t from below)) in
          rw (lt-ltb e.symbol s (omega (arith, lt, le)), lt-ltb e.symbol low lt) (ap (λ n. 1 + n) rest)
      | inr from ↦ elim (cases_lt e.symbol s) [
        | inl below ↦ absurd (let gone = rw (eq-eqb e.symbol e.symbol refl) at (none e.symbol from below) in cc)
        | inr behind ↦ rw (le-ltb e.symbol s behind, le-ltb e.symbol low from) refl
      ]
    ]

-- a cursor moves by one behind its symbol
pub cursor_more : (es : List Export) (m s : ℕ) → ExportsRise m es → cursor_at (s + 1) es ≡ cursor_at s es + cond (has_symbol s (slice_get es (cursor_at s es))) 1 0
cursor_more [] m s rise = refl
cursor_more (e ∷ es) m s rise =
    elim (cases_lt e.symbol s) [
      | inl lt ↦
          let rest = cursor_more es (e.symbol + 1) s rise.1 in
          rw (lt-ltb e.symbol (s + 1) (omega (arith, lt)), lt-ltb e.symbol s lt, one_more e es (cursor_at s es)) (omega (arith, rest))
      | inr from ↦ rw (le-ltb e.symbol s from) (elim (cases_eq e.symbol s) [
        | inl same ↦ rw (lt-ltb e.symbol (s + 1) (omega (arith, same)), eq-eqb e.symbol s same, at_start es (e.symbol + 1) (s + 1) rise.1 (omega (arith, same))) refl
        | inr other ↦ rw (ne_eqb e.symbol s other, le-ltb e.symbol (s + 1) (omega (arith, from, other))) refl
      ])
    ]

-- the export at a cursor, where its window is right
pub head_is : (es : List Export) (c : Cursor) → IsCursor es c → head_of c ≡ slice_get es c.next
head_is es c is =
    elim (cases_lt c.next c.count) [
      | inl lt ↦ rw (lt-ltb c.next c.count lt) (is.window c.next (omega arith) (omega (arith, is.count, lt)) refl)
      | inr past ↦ rw (le-ltb c.next c.count past) (sym (none es c.next (omega (arith, is.count, past))))
    ]
  where
    none : (es : List Export) (n : ℕ) → length es ≤ n → slice_get es n ≡ None
    none [] n le = refl
    none (e ∷ es) zero le = absurd (omega arith)
    none (e ∷ es) (suc n) le = none es n (omega arith)

-- ---- with their component

abbrev pub pairs : ℕ → List Export → List (ℕ × Export)
pairs k es = map (λ e. (k, e)) es

abbrev of : ℕ → (ℕ × Export) → Bool
of s x = eqb x.1.symbol s

-- the one that is chosen of some
abbrev pub pick : ℕ → List (ℕ × Export) → Option (ℕ × Export)
pick s xs = option_or (find (is_strong_export_of s) xs) (find (of s) xs)

strong_later : (k : ℕ) (es : List Export) (m s : ℕ) → ExportsRise m es → s < m → find (is_strong_export_of s) (pairs k es) ≡ None
strong_later k [] m s rise lt = refl
strong_later k (e ∷ es) m s rise lt = rw (ne_eqb e.symbol s (omega (arith, rise.0, lt))) (strong_later k es (e.symbol + 1) s rise.1 (omega (arith, rise.0, lt)))

-- a component has one export of a symbol at most
pub pick_own : (k : ℕ) (es : List Export) (m s : ℕ) → ExportsRise m es → pick s (pairs k es) ≡ option_map (λ e. (k, e)) (own s es)
pick_own k [] m s rise = refl
pick_own k (e ∷ es) m s rise =
    elim (cases_eq e.symbol s) [
      | inl same ↦ elim (cases_Bool e.weak) [
        | inl weak ↦ rw (eq-eqb e.symbol s same, weak, strong_later k es (e.symbol + 1) s rise.1 (omega (arith, same))) refl
        | inr strong ↦ rw (eq-eqb e.symbol s same, strong) refl
      ]
      | inr other ↦ rw (ne_eqb e.symbol s other) (pick_own k es (e.symbol + 1) s rise.1)
    ]

-- its strong exporters of a symbol
abbrev pub strong_in : ℕ → List (ℕ × Export) → List ℕ
strong_in s xs = map (λ x. x.0) (filter (is_strong_export_of s) xs)

none_strong : (k : ℕ) (es : List Export) (m s : ℕ) → ExportsRise m es → s < m → strong_in s (pairs k es) ≡ []
none_strong k [] m s rise lt = refl
none_strong k (e ∷ es) m s rise lt = rw (ne_eqb e.symbol s (omega (arith, rise.0, lt))) (none_strong k es (e.symbol + 1) s rise.1 (omega (arith, rise.0, lt)))

pub strong_own : (k : ℕ) (es : List Export) (m s : ℕ) → ExportsRise m es → strong_in s (pairs k es) ≡ cond (is_strong_of s (slice_get es (cursor_at s es))) (k ∷ []) []
strong_own k [] m s rise = refl
strong_own k (e ∷ es) m s rise =
    elim (cases_lt e.symbol s) [
      | inl lt ↦ rw (lt-ltb e.symbol s lt, ne_eqb e.symbol s (omega (arith, lt)), one_more e es (cursor_at s es)) (strong_own k es (e.symbol + 1) s rise.1)
      | inr from ↦ rw (le-ltb e.symbol s from) (elim (cases_eq e.symbol s) [
        | inl same ↦ elim (cases_Bool e.weak) [
          | inl weak ↦ rw (eq-eqb e.symbol s same, weak) (none_strong k es (e.symbol + 1) s rise.1 (omega (arith, same)))
          | inr strong ↦ rw (eq-eqb e.symbol s same, strong, none_strong k es (e.symbol + 1) s rise.1 (omega (arith, same))) refl
        ]
        | inr other ↦ rw (ne_eqb e.symbol s other) (none_strong k es (e.symbol + 1) s rise.1 (omega (arith, from, other)))
      ])
    ]

-- ---- of a set

abbrev part : (ℕ × Component) → List (ℕ × Export)
part c = pairs c.0 c.1.exports

more_from : (n : ℕ) (set : List Component) (k : ℕ) (c : Component) → slice_get set k ≡ Some c
    → flat_map part (enumerate_from n (take (suc k) set)) ≡ flat_map part (enumerate_from n (take k set)) ++ pairs (n + k) c.exports
more_from n [] k c at = absurd cc
more_from n (d ∷ set) zero c at =
    let same : d ≡ c = cc in let here : n ≡ n + 0 = omega arith in
    append-nil (pairs n d.exports) ∙ ap₂ (λ (i : ℕ) (x : Component). pairs i x.exports) here same
more_from n (d ∷ set) (suc k) c at =
    let next : n + 1 + k ≡ n + suc k = omega arith in
    ap (λ (xs : List (ℕ × Export)). pairs n d.exports ++ xs) (more_from (n + 1) set k c at ∙ ap (λ (i : ℕ). flat_map part (enumerate_from (n + 1) (take k set)) ++ pairs i c.exports) next)
    ∙ sym (append_assoc (pairs n d.exports) (flat_map part (enumerate_from (n + 1) (take k set))) (pairs (n + suc k) c.exports))

-- the exports of one component more
pub exports_more : (set : List Component) (k : ℕ) (c : Component) → slice_get set k ≡ Some c → exports_of (take (k + 1) set) ≡ exports_of (take k set) ++ pairs k c.exports
exports_more set k c at =
    let e : k + 1 ≡ suc k = omega arith in let z : 0 + k ≡ k = omega arith in
    ap (λ n. exports_of (take n set)) e ∙ more_from 0 set k c at ∙ ap (λ i. exports_of (take k set) ++ pairs i c.exports) z

find_append : {X : Type 0} (p : X → Bool) (xs ys : List X) → find p (xs ++ ys) ≡ option_or (find p xs) (find p ys)
find_append p [] ys = refl
find_append p (x ∷ xs) ys = elim (cases_Bool (p x)) [ inl e ↦ rw e refl | inr e ↦ rw e (find_append p xs ys) ]

or_none : {X : Type 0} (a b : Option X) → option_or a b ≡ None → (a ≡ None) × (b ≡ None)
or_none None b e = (refl, e)
or_none (Some x) b e = absurd cc

no_pairs : (k : ℕ) (es : List Export) (s : ℕ) → find (of s) (pairs k es) ≡ None → own s es ≡ None
no_pairs k [] s e = refl
no_pairs k (x ∷ es) s e =
    elim (cases_Bool (eqb x.symbol s)) [
      | inl hit ↦ absurd (let f = rw hit at e in cc)
      | inr miss ↦ rw miss (no_pairs k es s (rw miss at e))
    ]

none_from : (n : ℕ) (set : List Component) (s k : ℕ) (c : Component) → find (of s) (flat_map part (enumerate_from n set)) ≡ None → slice_get set k ≡ Some c → own s c.exports ≡ None
none_from n [] s k c e at = absurd cc
none_from n (d ∷ set) s zero c e at =
    let same : d ≡ c = cc in
    let parts = or_none (find (of s) (pairs n d.exports)) _ (sym (find_append (of s) (pairs n d.exports) (flat_map part (enumerate_from (n + 1) set))) ∙ e) in
    subst (λ (x : Component). own s x.exports ≡ None) same (no_pairs n d.exports s parts.0)
none_from n (d ∷ set) s (suc k) c e at =
    let parts = or_none (find (of s) (pairs n d.exports)) _ (sym (find_append (of s) (pairs n d.exports) (flat_map part (enumerate_from (n + 1) set))) ∙ e) in
    none_from (n + 1) set s k c parts.1 at

-- what isn't defined is exported by no component
pub none_defined : (set : List Component) (s k : ℕ) (c : Component) → definition_of set s ≡ None → slice_get set k ≡ Some c → own s c.exports ≡ None
none_defined set s k c e at = none_from 0 set s k c (or_none (find (is_strong_export_of s) (exports_of set)) _ e).1 at
