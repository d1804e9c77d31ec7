-- Where a table has a symbol's record.
use Rattle.std.proofs.Common.{◌≡◌, ℕ, zero, suc, ◌+◌, ◌-◌, ◌*◌, ◌<◌, ◌≤◌, ◌^◌, inl, inr, false, cond, eqb, List, [], ◌∷◌, length, take, drop, replicate, Option, Some, None, refl, sym, ap, subst, ◌∙◌, arith}
use Rattle.std.specs.Prelude.{slice_get}
use Rattle.std.specs.List.{find, flat_map, AllByRecursion}
use Rattle.std.specs.Option.{option_map}
use Rattle.std.proofs.lemmas.Bool.{cases_Bool, cases_lt, cases_eq, eq-eqb, ne_eqb, lt-ltb, le-ltb}
use Rattle.std.proofs.lemmas.List.{drop_at, drop-drop, take-replicate, drop-replicate}
use Rattle.std.proofs.lemmas.Option.{slice_get_past}
use Rattle.component_package.specs.packages.Numbers.{u16_at, u32_at}
use Rattle.component_package.specs.link.Areas.{MergedSymbol, symbol_bytes, IsSymbol, SymbolsRise}
use Rattle.component_package.specs.link.Pages.{address_in}
use Rattle.component_package.proofs.Lists.{entry_in, all_at}
use Rattle.kept_symbols.specs.Records.{records_in}
use Rattle.kept_symbols.specs.Lookup.{first_from, record_bytes, address_said}
use Rattle.kept_symbols.proofs.Areas.{length-records}
use Rattle.kept_symbols.proofs.Elements.{at_place}

-- ---- the bytes of a record

-- by its place
pub record_is : (size i : ℕ) (rs : List MergedSymbol) → 8 * length rs ≤ size → 8 * i + 8 ≤ size → take 8 (drop (8 * i) (records_in size rs)) ≡ record_bytes (slice_get rs i)
record_is size i rs few room =
    elim (cases_lt i (length rs)) [ inl inside ↦ there i inside | inr past ↦ behind i past room ]
  where
    back : List ℕ
    back = replicate {A = ℕ} (size - 8 * length rs) 255

    there : (i : ℕ) → i < length rs → take 8 (drop (8 * i) (records_in size rs)) ≡ record_bytes (slice_get rs i)
    there i inside = go (slice_get rs i) refl
      where
        go : (o : Option MergedSymbol) → slice_get rs i ≡ o → take 8 (drop (8 * i) (records_in size rs)) ≡ record_bytes o
        go None e = absurd (let some = at_place rs i inside in let bad = sym e ∙ some.1 in cc)
        go (Some r) e =
            let from : 0 + 8 * i ≡ 8 * i = omega arith in
            let wide : 0 + 8 * i + 8 - (0 + 8 * i) ≡ 8 = omega arith in
            sym (ap (λ (n : ℕ). take n (drop (0 + 8 * i) (records_in size rs))) wide ∙ ap (λ (n : ℕ). take 8 (drop n (records_in size rs))) from) ∙ entry_in symbol_bytes 8 (λ x. refl) rs [] back i r e

    behind : (i : ℕ) → length rs ≤ i → 8 * i + 8 ≤ size → take 8 (drop (8 * i) (records_in size rs)) ≡ record_bytes (slice_get rs i)
    behind i past room =
        let n : ℕ = 8 * length rs in
        let split : 8 * i ≡ n + (8 * i - n) = omega (arith, past) in
        let front : drop n (records_in size rs) ≡ back = drop_at (flat_map symbol_bytes rs) back n (length-records rs) in
        let rest : size - n - (8 * i - n) ≡ 8 + (size - 8 * i - 8) = omega (arith, past, room) in
        ap (λ (k : ℕ). take 8 (drop k (records_in size rs))) split ∙ ap (take 8) (sym (drop-drop (8 * i - n) n (records_in size rs))) ∙ ap (λ (l : List ℕ). take 8 (drop (8 * i - n) l)) front
        ∙ ap (take 8) (drop-replicate (8 * i - n) (size - n) 255 ∙ ap (λ (k : ℕ). replicate {A = ℕ} k 255) rest) ∙ take-replicate 8 (8 + (size - 8 * i - 8)) 255 (omega arith)
        ∙ ap record_bytes (sym (slice_get_past rs i past))

-- ---- where it is

one_more : (r : MergedSymbol) (rs : List MergedSymbol) (n : ℕ) → slice_get (r ∷ rs) (1 + n) ≡ slice_get rs n
one_more r rs n = let p : suc n ≡ 1 + n = omega arith in subst (λ (k : ℕ). slice_get (r ∷ rs) k ≡ slice_get rs n) p refl

-- a record of a lesser symbol is before it
pub before_first : (rs : List MergedSymbol) (low s i : ℕ) (r : MergedSymbol) → SymbolsRise low rs → slice_get rs i ≡ Some r → r.symbol < s → i + 1 ≤ first_from s rs
before_first [] low s i r rise at lt = absurd cc
before_first (q ∷ rs) low s zero r rise at lt = let same : q ≡ r = cc in let below : q.symbol < s = subst (λ (x : MergedSymbol). x.symbol < s) (sym same) lt in rw (lt-ltb q.symbol s below) (omega arith)
before_first (q ∷ rs) low s (suc i) r rise at lt =
    let above = rises rs (q.symbol + 1) i r rise.1 at in
    let rest = before_first rs (q.symbol + 1) s i r rise.1 at lt in
    rw (lt-ltb q.symbol s (omega (arith, above, lt))) (omega (arith, rest))
  where
    rises : (rs : List MergedSymbol) (low i : ℕ) (r : MergedSymbol) → SymbolsRise low rs → slice_get rs i ≡ Some r → low ≤ r.symbol
    rises [] low i r rise at = absurd cc
    rises (q ∷ rs) low zero r rise at = let same : q ≡ r = cc in subst (λ (x : MergedSymbol). low ≤ x.symbol) same rise.0
    rises (q ∷ rs) low (suc i) r rise at = let le = rises rs (q.symbol + 1) i r rise.1 at in omega (arith, rise.0, le)

-- another is not
pub behind_first : (rs : List MergedSymbol) (s i : ℕ) (r : MergedSymbol) → slice_get rs i ≡ Some r → s ≤ r.symbol → first_from s rs ≤ i
behind_first [] s i r at le = absurd cc
behind_first (q ∷ rs) s zero r at le = let same : q ≡ r = cc in let above : s ≤ q.symbol = subst (λ (x : MergedSymbol). s ≤ x.symbol) (sym same) le in rw (le-ltb q.symbol s above) (omega arith)
behind_first (q ∷ rs) s (suc i) r at le =
    let rest = behind_first rs s i r at le in
    elim (cases_lt q.symbol s) [ inl lt ↦ rw (lt-ltb q.symbol s lt) (omega (arith, rest)) | inr ge ↦ rw (le-ltb q.symbol s ge) (omega arith) ]

pub first_few : (rs : List MergedSymbol) (s : ℕ) → first_from s rs ≤ length rs
first_few [] s = omega arith
first_few (q ∷ rs) s = let rest = first_few rs s in elim (cases_lt q.symbol s) [ inl lt ↦ rw (lt-ltb q.symbol s lt) (omega (arith, rest)) | inr ge ↦ rw (le-ltb q.symbol s ge) (omega arith) ]

-- the record there, if it is of this symbol
abbrev pub of_symbol : ℕ → Option MergedSymbol → Option MergedSymbol
of_symbol s None = None
of_symbol s (Some r) = cond (eqb r.symbol s) (Some r) None

pub find_first : (rs : List MergedSymbol) (low s : ℕ) → SymbolsRise low rs → find (λ r. eqb r.symbol s) rs ≡ of_symbol s (slice_get rs (first_from s rs))
find_first [] low s rise = refl
find_first (q ∷ rs) low s rise =
    elim (cases_lt q.symbol s) [
      | inl lt ↦ rw (lt-ltb q.symbol s lt, ne_eqb q.symbol s (omega (arith, lt)), one_more q rs (first_from s rs)) (find_first rs (q.symbol + 1) s rise.1)
      | inr le ↦ rw (le-ltb q.symbol s le) (elim (cases_eq q.symbol s) [
        | inl same ↦ rw (eq-eqb q.symbol s same) refl
        | inr other ↦ rw (ne_eqb q.symbol s other) (later rs (q.symbol + 1) s rise.1 (omega (arith, le)))
      ])
    ]
  where
    later : (rs : List MergedSymbol) (m s : ℕ) → SymbolsRise m rs → s < m → find (λ r. eqb r.symbol s) rs ≡ None
    later [] m s rise lt = refl
    later (q ∷ rs) m s rise lt = rw (ne_eqb q.symbol s (omega (arith, rise.0, lt))) (later rs (q.symbol + 1) s rise.1 (omega (arith, rise.0, lt)))

-- ---- what eight bytes say

symbol_said : (r : MergedSymbol) → u16_at (symbol_bytes r) 0 ≡ r.symbol
symbol_said r = omega arith

place_said : (r : MergedSymbol) → u32_at (symbol_bytes r) 4 ≡ r.address
place_said r = omega arith

-- a record's bytes are before the symbol's where its symbol is
pub halve_before : (rs : List MergedSymbol) (s i : ℕ) (raw : List ℕ) (n : ℕ) → s < 2 ^ 16 → SymbolsRise 16 rs → raw ≡ record_bytes (slice_get rs i) → n ≡ u16_at raw 0 → n < s → i + 1 ≤ first_from s rs
halve_before rs s i raw n small rise bytes said lt = go (slice_get rs i) refl
  where
    go : (o : Option MergedSymbol) → slice_get rs i ≡ o → i + 1 ≤ first_from s rs
    go None e = absurd (let blank : n ≡ 65535 = said ∙ ap (λ (b : List ℕ). u16_at b 0) (bytes ∙ ap record_bytes e) in omega (arith, blank, lt, small))
    go (Some r) e = let own : n ≡ r.symbol = said ∙ ap (λ (b : List ℕ). u16_at b 0) (bytes ∙ ap record_bytes e) ∙ symbol_said r in before_first rs 16 s i r rise e (omega (arith, own, lt))

pub halve_behind : (rs : List MergedSymbol) (s i : ℕ) (raw : List ℕ) (n : ℕ) → raw ≡ record_bytes (slice_get rs i) → n ≡ u16_at raw 0 → s ≤ n → first_from s rs ≤ i
halve_behind rs s i raw n bytes said le = go (slice_get rs i) refl
  where
    past : (rs : List MergedSymbol) (i : ℕ) → slice_get rs i ≡ None → length rs ≤ i
    past [] i e = omega arith
    past (r ∷ rs) zero e = absurd cc
    past (r ∷ rs) (suc i) e = let rest = past rs i e in omega (arith, rest)

    go : (o : Option MergedSymbol) → slice_get rs i ≡ o → first_from s rs ≤ i
    go None e = let over = past rs i e in let few = first_few rs s in omega (arith, over, few)
    go (Some r) e = let own : n ≡ r.symbol = said ∙ ap (λ (b : List ℕ). u16_at b 0) (bytes ∙ ap record_bytes e) ∙ symbol_said r in behind_first rs s i r e (omega (arith, own, le))

-- the address that is said where the record is to be
pub address_there : (rs : List MergedSymbol) (s i : ℕ) (raw : List ℕ) → SymbolsRise 16 rs → AllByRecursion IsSymbol rs → first_from s rs ≡ i → raw ≡ record_bytes (slice_get rs i) → address_said raw s ≡ address_in rs s
address_there rs s i raw rise symbols first bytes =
    ap (λ (b : List ℕ). address_said b s) bytes ∙ go (slice_get rs i) refl
    ∙ sym (ap (option_map (λ (r : MergedSymbol). r.address)) (find_first rs 16 s rise ∙ ap (λ (k : ℕ). of_symbol s (slice_get rs k)) first))
  where
    go : (o : Option MergedSymbol) → slice_get rs i ≡ o → address_said (record_bytes o) s ≡ option_map (λ (r : MergedSymbol). r.address) (of_symbol s o)
    go None e = elim (cases_Bool (eqb 65535 s)) [ inl hit ↦ rw hit refl | inr miss ↦ rw miss refl ]
    go (Some r) e =
        let is = all_at IsSymbol rs i r symbols e in
        let low : eqb r.exporter 255 ≡ false = ne_eqb r.exporter 255 (omega (arith, is.exporter)) in
        elim (cases_eq r.symbol s) [
          | inl same ↦ rw (symbol_said r, place_said r, low, eq-eqb r.symbol s same) refl
          | inr other ↦ rw (symbol_said r, ne_eqb r.symbol s other) refl
        ]

-- none is said where no record is to be
pub address_nowhere : (rs : List MergedSymbol) (s i : ℕ) → SymbolsRise 16 rs → length rs ≤ i → first_from s rs ≡ i → None ≡ address_in rs s
address_nowhere rs s i rise past first =
    sym (ap (option_map (λ (r : MergedSymbol). r.address)) (find_first rs 16 s rise ∙ ap (λ (k : ℕ). of_symbol s (slice_get rs k)) first ∙ ap (of_symbol s) (slice_get_past rs i past)))
