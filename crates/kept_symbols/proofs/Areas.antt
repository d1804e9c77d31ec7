-- Bytes of records, and 0xFF behind them.
use Rattle.std.proofs.Common.{◌≡◌, ℕ, zero, suc, ◌+◌, ◌-◌, ◌*◌, ◌<◌, ◌≤◌, ◌⊎◌, inl, inr, List, [], ◌∷◌, ◌++◌, length, take, drop, set, replicate, refl, sym, ap, ap₂, ◌∙◌, arith, append_assoc, length-append}
use Rattle.std.specs.List.{flat_map, concat}
use Rattle.std.proofs.lemmas.List.{append-nil, take_at, drop_at, take_more_set, drop-set-add, length-drop}
use Rattle.std.proofs.lemmas.List.Folds.{concat-append}
use Rattle.std.proofs.lemmas.Grind.{flat_map-append}
use Rattle.component_package.specs.link.Areas.{MergedSymbol, symbol_bytes}
use Rattle.component_package.specs.mote.Sides.{pages_from}
use Rattle.component_package.proofs.Lists.{length-entries}
use Rattle.kept_symbols.specs.Records.{records_in}

-- so many bytes of 0xFF
abbrev blank : ℕ → List ℕ
blank n = replicate {A = ℕ} n 255

drop_blank : (k n : ℕ) → drop k (blank (k + n)) ≡ blank n
drop_blank zero n = ap blank (let e : 0 + n ≡ n = omega arith in e)
drop_blank (suc k) n = let e : suc k + n ≡ suc (k + n) = omega arith in ap (λ m. drop (suc k) (blank m)) e ∙ drop_blank k n

more_blank : (m n : ℕ) → blank m ++ blank n ≡ blank (m + n)
more_blank zero n = ap blank (let e : n ≡ 0 + n = omega arith in e)
more_blank (suc m) n = let e : suc (m + n) ≡ suc m + n = omega arith in ap (λ (l : List ℕ). 255 ∷ l) (more_blank m n) ∙ ap blank e

abbrev bytes_of : List MergedSymbol → List ℕ
bytes_of rs = flat_map symbol_bytes rs

-- a record has eight bytes
pub length-records : (rs : List MergedSymbol) → length (bytes_of rs) ≡ 8 * length rs
length-records rs = length-entries symbol_bytes 8 (λ r. refl) rs

-- a record more, behind those that are there
pub record_put : (size i : ℕ) (rs : List MergedSymbol) (r : MergedSymbol) → length rs ≡ i → 8 * i + 8 ≤ size
    → take (8 * i) (records_in size rs) ++ (symbol_bytes r ++ drop 8 (drop (8 * i) (records_in size rs))) ≡ records_in size (rs ++ r ∷ [])
record_put size i rs r count room =
    let long : length (bytes_of rs) ≡ 8 * i = omega (arith, length-records rs, count) in
    let back : List ℕ = blank (size - 8 * length rs) in
    let rest : size - 8 * length rs ≡ 8 + (size - 8 * length (rs ++ r ∷ [])) = omega (arith, length-append rs (r ∷ []), count, room) in
    ap₂ (λ (front behind : List ℕ). front ++ (symbol_bytes r ++ drop 8 behind)) (take_at (bytes_of rs) back (8 * i) long) (drop_at (bytes_of rs) back (8 * i) long)
    ∙ ap (λ (behind : List ℕ). bytes_of rs ++ (symbol_bytes r ++ behind)) (ap (λ n. drop 8 (blank n)) rest ∙ drop_blank 8 (size - 8 * length (rs ++ r ∷ [])))
    ∙ sym (append_assoc (bytes_of rs) (symbol_bytes r) (blank (size - 8 * length (rs ++ r ∷ []))))
    ∙ ap (λ (front : List ℕ). front ++ blank (size - 8 * length (rs ++ r ∷ []))) (ap (λ (l : List ℕ). bytes_of rs ++ l) (sym (append-nil (symbol_bytes r))) ∙ sym (flat_map-append symbol_bytes rs (r ∷ [])))

-- a page more, behind full pages or without records
pub page_more : (p : ℕ) (rs more : List MergedSymbol) → length rs ≤ 32 * p → (length rs ≡ 32 * p) ⊎ (more ≡ []) → length more ≤ 32
    → records_in (256 * p) rs ++ records_in 256 more ≡ records_in (256 * (p + 1)) (rs ++ more)
page_more p rs more few (inl full) room =
    let none : 256 * p - 8 * length rs ≡ 0 = omega (arith, full) in
    let size : 256 - 8 * length more ≡ 256 * (p + 1) - 8 * length (rs ++ more) = omega (arith, length-append rs more, full, room) in
    ap (λ n. (bytes_of rs ++ blank n) ++ records_in 256 more) none ∙ ap (λ (l : List ℕ). l ++ records_in 256 more) (append-nil (bytes_of rs))
    ∙ sym (append_assoc (bytes_of rs) (bytes_of more) (blank (256 - 8 * length more)))
    ∙ ap₂ (λ (l : List ℕ) (n : ℕ). l ++ blank n) (sym (flat_map-append symbol_bytes rs more)) size
page_more p rs more few (inr none) room =
    let empty : length more ≡ 0 = ap length none in
    let here : 256 - 8 * length more ≡ 256 = omega (arith, empty) in
    let size : 256 * p - 8 * length rs + 256 ≡ 256 * (p + 1) - 8 * length (rs ++ more) = omega (arith, length-append rs more, empty, few) in
    ap (λ (l : List ℕ). records_in (256 * p) rs ++ l) (ap₂ (λ (ts : List MergedSymbol) (n : ℕ). bytes_of ts ++ blank n) none here)
    ∙ append_assoc (bytes_of rs) (blank (256 * p - 8 * length rs)) (blank 256)
    ∙ ap (λ (l : List ℕ). bytes_of rs ++ l) (more_blank (256 * p - 8 * length rs) 256)
    ∙ ap₂ (λ (ts : List MergedSymbol) (n : ℕ). bytes_of ts ++ blank n) (sym (append-nil rs) ∙ ap (λ (ts : List MergedSymbol). rs ++ ts) (sym none)) size

-- the pages of an area up to one that is set
pub pages_more : (first p : ℕ) (ext : List (List ℕ)) (page : List ℕ) → first + p < length ext → concat (pages_from first (p + 1) (set ext (first + p) page)) ≡ concat (pages_from first p ext) ++ page
pages_more first p ext page within =
    let inside : p < length (drop first ext) = omega (arith, length-drop first ext, within) in
    ap (λ (l : List (List ℕ)). concat (take (p + 1) l)) (drop-set-add first ext p page) ∙ ap concat (take_more_set (drop first ext) p page inside)
    ∙ concat-append (take p (drop first ext)) (page ∷ []) ∙ ap (λ (l : List ℕ). concat (take p (drop first ext)) ++ l) (append-nil page)
