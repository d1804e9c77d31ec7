-- Cursors of a walk, one after the other.
use Rattle.std.proofs.Common.{◌≡◌, ◌≢◌, ℕ, zero, suc, ◌+◌, ◌<◌, ◌≤◌, inl, inr, Bool, true, cond, List, [], ◌∷◌, ◌++◌, length, take, map, set, Option, Some, None, refl, sym, ap, ap₂, subst, ◌∙◌, arith, append_assoc, get_or-set_same, get_or-set_other}
use Rattle.std.specs.Prelude.{slice_get, option_to_list, IfSome}
use Rattle.std.specs.List.{filter, flat_map, enumerate_from}
use Rattle.std.proofs.lemmas.Bool.{cases_Bool, cases_eq, le-ltb}
use Rattle.std.proofs.lemmas.List.{map-append, take_all}
use Rattle.std.proofs.lemmas.List.Elements.{filter-append}
use Rattle.component_package.specs.declared.part.Export.{Export}
use Rattle.component_package.specs.packages.Component.{Component}
use Rattle.component_package.specs.packages.Grammar.{ExportsRise, IsComponent}
use Rattle.component_package.specs.link.Link.{Duplicate, exports_of, is_strong_export_of, definition_of, strong_exporters, first_two}
use Rattle.component_package.proofs.Lists.{all_at}
use Rattle.component_package.specs.link.Sets.{IsSet}
use Rattle.kept_symbols.specs.declared.cursor.Cursor.{Cursor}
use Rattle.kept_symbols.specs.declared.walk.Walk.{Walk}
use Rattle.kept_symbols.specs.Cursors.{cursor_at, head_of, is_strong_of, has_symbol, behind}
use Rattle.kept_symbols.specs.Walks.{cursor_in, StandsAt, Stand, IsAt, IsFirst, is_before, better_of}
use Rattle.kept_symbols.proofs.Elements.{at_place}
use Rattle.kept_symbols.proofs.Exports.{pick, pairs, strong_in, head_is, own_first, cursor_same, cursor_more, exports_more, strong_own, none_defined}
use Rattle.kept_symbols.proofs.Choice.{first_more}

-- ---- lists of cursors

abbrev nothing : Cursor
nothing = record { next = 0; count = 0; window = [] }

-- what holds of the first k cursors and of the one that is put behind them
pub put_more : (P : ℕ → Cursor → Type 0) (cursors : List Cursor) (k : ℕ) (c : Cursor) → k < length cursors → P k c → ((j : ℕ) → j < k → P j (cursor_in cursors j))
    → (j : ℕ) → j < k + 1 → P j (cursor_in (set cursors k c) j)
put_more P cursors k c within here before j lt =
    elim (cases_eq j k) [
      | inl same ↦ subst (λ (i : ℕ). P i (cursor_in (set cursors k c) i)) (sym same) (subst (P k) (sym (get_or-set_same cursors k c nothing within)) here)
      | inr other ↦ subst (P j) (sym (get_or-set_other cursors k j c nothing other)) (before j (omega (arith, lt, other)))
    ]

-- what holds of all cursors, where one is put in its place
pub put_one : (P : ℕ → Cursor → Type 0) (cursors : List Cursor) (k n : ℕ) (c : Cursor) → k < length cursors → P k c → ((j : ℕ) → j < n → P j (cursor_in cursors j))
    → (j : ℕ) → j < n → P j (cursor_in (set cursors k c) j)
put_one P cursors k n c within here all j lt =
    elim (cases_eq j k) [
      | inl same ↦ subst (λ (i : ℕ). P i (cursor_in (set cursors k c) i)) (sym same) (subst (P k) (sym (get_or-set_same cursors k c nothing within)) here)
      | inr other ↦ subst (P j) (sym (get_or-set_other cursors k j c nothing other)) (all j lt)
    ]

-- the later cursors stay
pub put_later : (cursors : List Cursor) (k j : ℕ) (c : Cursor) → k + 1 ≤ j → cursor_in (set cursors k c) j ≡ cursor_in cursors j
put_later cursors k j c le = let other : j ≢ k = omega arith in get_or-set_other cursors k j c nothing other

-- a cursor stands more
pub stand_more : (comps : List Component) (low : ℕ) (cursors : List Cursor) (k : ℕ) (c : Cursor) → k < length cursors
    → ((comp : Component) → slice_get comps k ≡ Some comp → StandsAt low comp.exports c) → Stand comps low cursors k → Stand comps low (set cursors k c) (k + 1)
stand_more comps low cursors k c within here before j comp lt at =
    put_more (λ i d. (x : Component) → slice_get comps i ≡ Some x → StandsAt low x.exports d) cursors k c within here (λ i below x there. before i x below there) j lt comp at

-- ---- one cursor

-- before all symbols
pub at_zero : (es : List Export) → cursor_at 0 es ≡ 0
at_zero [] = refl
at_zero (e ∷ es) = rw (le-ltb e.symbol 0 (omega arith)) refl

-- the exports of a set's component rise
pub exports_rise : (set : List Component) (k : ℕ) (c : Component) → IsSet set → slice_get set k ≡ Some c → ExportsRise 16 c.exports
exports_rise set k c is at = (all_at IsComponent set k c is.components at).export_order

-- the export ahead
pub head_at : (low : ℕ) (es : List Export) (c : Cursor) → StandsAt low es c → head_of c ≡ slice_get es (cursor_at low es)
head_at low es c stands = head_is es c stands.cursor ∙ ap (slice_get es) stands.at

-- behind a symbol
pub behind_at : (s : ℕ) (es : List Export) (c : Cursor) → ExportsRise 16 es → StandsAt s es c → behind s c ≡ cursor_at (s + 1) es
behind_at s es c rise stands =
    ap₂ (λ (n : ℕ) (h : Option Export). n + cond (has_symbol s h) 1 0) stands.at (head_at s es c stands) ∙ sym (cursor_more es 16 s rise)

-- ---- the walk

-- what comes first of one component more
pub next_more : (set : List Component) (low k : ℕ) (w : Walk) (chosen : Option (ℕ × Export)) → IsSet set → IsAt set low w → k < w.count
    → IsFirst (λ s. pick s (exports_of (take k set))) low chosen → IsFirst (λ s. pick s (exports_of (take (k + 1) set))) low (better_of chosen k (head_of (cursor_in w.cursors k)))
next_more set low k w chosen is at lt first =
    let there = at_place set k (omega (arith, lt, at.count)) in
    let comp : Component = there.0 in
    let rise = exports_rise set k comp is there.1 in
    let head = head_at low comp.exports (cursor_in w.cursors k) (at.cursors k comp lt there.1) in
    subst (λ (h : Option Export). IsFirst (λ s. pick s (exports_of (take (k + 1) set))) low (better_of chosen k h)) (sym head)
    (first_more set k low comp chosen (slice_get comp.exports (cursor_at low comp.exports)) there.1 rise first (own_first comp.exports 16 low rise))

-- what comes first of all
pub next_all : (set : List Component) (low k : ℕ) (chosen : Option (ℕ × Export)) → length set ≤ k → IsFirst (λ s. pick s (exports_of (take k set))) low chosen → IsFirst (definition_of set) low chosen
next_all set low k chosen all first = subst (λ (xs : List Component). IsFirst (λ s. pick s (exports_of xs)) low chosen) (take_all k set all) first

-- the strong exporters of one component more
pub strong_more : (set : List Component) (s k : ℕ) (w : Walk) → IsSet set → IsAt set s w → k < w.count
    → strong_in s (exports_of (take (k + 1) set)) ≡ strong_in s (exports_of (take k set)) ++ cond (is_strong_of s (head_of (cursor_in w.cursors k))) (k ∷ []) []
strong_more set s k w is at lt =
    let there = at_place set k (omega (arith, lt, at.count)) in
    let comp : Component = there.0 in
    let head = head_at s comp.exports (cursor_in w.cursors k) (at.cursors k comp lt there.1) in
    let xs : List (ℕ × Export) = exports_of (take k set) in
    ap (strong_in s) (exports_more set k comp there.1) ∙ joined s xs (pairs k comp.exports)
    ∙ ap (λ (ys : List ℕ). strong_in s xs ++ ys) (strong_own k comp.exports 16 s (exports_rise set k comp is there.1) ∙ ap (λ (h : Option Export). cond (is_strong_of s h) (k ∷ []) []) (sym head))
  where
    joined : (s : ℕ) (xs ys : List (ℕ × Export)) → strong_in s (xs ++ ys) ≡ strong_in s xs ++ strong_in s ys
    joined s xs ys = ap (map (λ (x : ℕ × Export). x.0)) (filter-append (is_strong_export_of s) xs ys) ∙ map-append (λ (x : ℕ × Export). x.0) (filter (is_strong_export_of s) xs) (filter (is_strong_export_of s) ys)

-- the strong exporters of the first components come first
pub strong_first : (set : List Component) (s k : ℕ) → (more : List ℕ) × (strong_exporters set s ≡ strong_in s (exports_of (take k set)) ++ more)
strong_first set s k = from 0 set k
  where
    joined : (xs ys : List (ℕ × Export)) → strong_in s (xs ++ ys) ≡ strong_in s xs ++ strong_in s ys
    joined xs ys = ap (map (λ (x : ℕ × Export). x.0)) (filter-append (is_strong_export_of s) xs ys) ∙ map-append (λ (x : ℕ × Export). x.0) (filter (is_strong_export_of s) xs) (filter (is_strong_export_of s) ys)

    part : (ℕ × Component) → List (ℕ × Export)
    part c = pairs c.0 c.1.exports

    from : (n : ℕ) (cs : List Component) (k : ℕ)
        → (more : List ℕ) × (strong_in s (flat_map (λ c. map (λ e. (c.0, e)) c.1.exports) (enumerate_from n cs)) ≡ strong_in s (flat_map (λ c. map (λ e. (c.0, e)) c.1.exports) (enumerate_from n (take k cs))) ++ more)
    from n [] zero = ([], refl)
    from n [] (suc k) = ([], refl)
    from n (c ∷ cs) zero = (strong_in s (flat_map (λ c. map (λ e. (c.0, e)) c.1.exports) (enumerate_from n (c ∷ cs))), refl)
    from n (c ∷ cs) (suc k) =
        let rest = from (n + 1) cs k in
        let own : List (ℕ × Export) = pairs n c.exports in
        let some : List (ℕ × Export) = flat_map (λ c. map (λ e. (c.0, e)) c.1.exports) (enumerate_from (n + 1) (take k cs)) in
        let all : List (ℕ × Export) = flat_map (λ c. map (λ e. (c.0, e)) c.1.exports) (enumerate_from (n + 1) cs) in
        (rest.0, joined own all ∙ ap (λ (ys : List ℕ). strong_in s own ++ ys) rest.1 ∙ sym (append_assoc (strong_in s own) (strong_in s some) rest.0) ∙ ap (λ (ys : List ℕ). ys ++ rest.0) (sym (joined own some)))

-- a walk stands behind the symbols below s too where none is between
pub walk_on : (set : List Component) (low s : ℕ) (w : Walk) → IsSet set → low ≤ s → ((t : ℕ) → low ≤ t → t < s → definition_of set t ≡ None) → IsAt set low w → IsAt set s w
walk_on set low s w is le none at = record {
  count = at.count;
  cursors = λ k c lt there. let old = at.cursors k c lt there in
      record {
        cursor = old.cursor;
        at = old.at ∙ sym (cursor_same c.exports 16 low s (exports_rise set k c is there) le (λ t from below. none_defined set t k c (none t from below) there));
      };
}

-- a first strong exporter, where there was none
pub strong_one : (set : List Component) (s k : ℕ) (w : Walk) (first : Option ℕ) (is_one : Bool) → IsSet set → IsAt set s w → k < w.count → is_strong_of s (head_of (cursor_in w.cursors k)) ≡ is_one
    → strong_in s (exports_of (take k set)) ≡ option_to_list first → strong_in s (exports_of (take (k + 1) set)) ≡ option_to_list first ++ cond is_one (k ∷ []) []
strong_one set s k w first is_one is at lt strong before =
    strong_more set s k w is at lt ∙ ap₂ (λ (xs : List ℕ) (b : Bool). xs ++ cond b (k ∷ []) []) before strong

-- two strong exporters
pub strong_two : (set : List Component) (s k i : ℕ) (w : Walk) (first : Option ℕ) → IsSet set → IsAt set s w → k < w.count → is_strong_of s (head_of (cursor_in w.cursors k)) ≡ true → first ≡ Some i
    → strong_in s (exports_of (take k set)) ≡ option_to_list first → first_two s (strong_exporters set s) ≡ Some (Duplicate s i k)
strong_two set s k i w first is at lt strong was before =
    let more = strong_first set s (k + 1) in
    let two : strong_in s (exports_of (take (k + 1) set)) ≡ i ∷ k ∷ [] = strong_one set s k w first true is at lt strong before ∙ ap (λ (o : Option ℕ). option_to_list o ++ k ∷ []) was in
    ap (first_two s) (more.1 ∙ ap (λ (xs : List ℕ). xs ++ more.0) two)

-- one strong exporter at most
pub strong_few : (set : List Component) (s k : ℕ) (first : Option ℕ) → length set ≤ k → strong_in s (exports_of (take k set)) ≡ option_to_list first → first_two s (strong_exporters set s) ≡ None
strong_few set s k first all before =
    ap (λ (xs : List Component). first_two s (strong_in s (exports_of xs))) (sym (take_all k set all)) ∙ ap (first_two s) before ∙ few first
  where
    few : (o : Option ℕ) → first_two s (option_to_list o) ≡ None
    few None = refl
    few (Some i) = refl

-- the component of what is chosen is one of those that were looked at
pub below_all : (chosen : Option (ℕ × Export)) (k n : ℕ) → k ≤ n → IfSome chosen (λ x. x.0 < k) → IfSome chosen (λ x. x.0 < n)
below_all None k n le below = tt
below_all (Some x) k n le below = omega (arith, le, below)

pub below_more : (chosen : Option (ℕ × Export)) (k : ℕ) (head : Option Export) → IfSome chosen (λ x. x.0 < k) → IfSome (better_of chosen k head) (λ x. x.0 < k + 1)
below_more chosen k None below = below_all chosen k (k + 1) (omega arith) below
below_more None k (Some e) below = omega arith
below_more (Some x) k (Some e) below = elim (cases_Bool (is_before e x.1)) [ inl first ↦ rw first (omega arith) | inr later ↦ rw later (omega (arith, below)) ]
