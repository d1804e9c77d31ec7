-- Lists of cleared bytes.
use Rattle.std.proofs.Common.{◌≡◌, ℕ, suc, zero, ◌+◌, ◌<◌, ◌≤◌, Bool, Some, List, [], ◌∷◌, ◌++◌, length, get_or, take, drop, refl, sym, ap, subst, ◌∙◌, arith}
use Rattle.std.specs.Prelude.{bit_and, slice_get}
use Rattle.std.proofs.lemmas.Option.{slice_get-get_or}
use Rattle.std.proofs.lemmas.List.{take_all}
use Rattle.std.proofs.lemmas.Grind.{same_number_lists}
use Rattle.std.proofs.lemmas.List.FromFn.{get_or-map-range_with_len}
use Rattle.avr_reloc.specs.Field.{AreBytes}
use Rattle.avr_reloc.proofs.Tables.{same_below}
use Rattle.component_package.specs.declared.part.Reloc.{Reloc}
use Rattle.component_package.specs.packages.Reading.{list_of}
use Rattle.kept_definitions.specs.Runs.{bits_kept}
use Rattle.component_package.proofs.Lists.{length-list_of}
use Rattle.kept_laws.proofs.Further.{clearing_goes_on}
use Rattle.kept_code.specs.Clear.{AreOfComponent, cleared_from}

-- a list whose elements a function numbers
pub filled : (f : ℕ → ℕ) (old new : List ℕ) → length new ≡ length old → ((k : ℕ) → k < length old → get_or new k 0 ≡ f k) → new ≡ list_of f (length old)
filled f old new same each =
    same_number_lists new (list_of f (length old)) (same ∙ sym (length-list_of f (length old)))
    (λ k lt. each k (omega (arith, lt, same)) ∙ sym (get_or-map-range_with_len f 0 (length old) k k 0 (omega (arith, lt, same)) (omega arith)))

-- with no field, nothing is cleared
pub none_cleared : (from : ℕ) (init : Bool) (bytes : List ℕ) → AreBytes bytes → bytes ≡ cleared_from from init [] bytes
none_cleared from init bytes are =
    filled (λ i. bit_and (get_or bytes i 0) 255) bytes bytes refl (λ k lt. sym (same_below (λ b. bit_and b 255) (λ b. b) 256 refl (get_or bytes k 0) (are k)))

-- the first elements and the next
split_at : (xs : List Reloc) (i : ℕ) (x : Reloc) → slice_get xs i ≡ Some x → (take (suc i) xs ≡ take i xs ++ x ∷ []) × (xs ≡ take i xs ++ x ∷ drop (suc i) xs)
split_at [] i x here = absurd cc
split_at (y ∷ ys) zero x here = let same : y ≡ x = cc in (ap (λ (z : Reloc). z ∷ []) same, ap (λ (z : Reloc). z ∷ ys) same)
split_at (y ∷ ys) (suc i) x here = let rest = split_at ys i x here in (ap (λ (zs : List Reloc). y ∷ zs) rest.0, ap (λ (zs : List Reloc). y ∷ zs) rest.1)

-- one more field
pub next_cleared : (from : ℕ) (init : Bool) (rs : List Reloc) (i : ℕ) (r : Reloc) (bytes before after : List ℕ) → AreOfComponent rs → AreBytes bytes → slice_get rs i ≡ Some r
    → before ≡ cleared_from from init (take i rs) bytes → after ≡ cleared_from from init (r ∷ []) before → after ≡ cleared_from from init (take (suc i) rs) bytes
next_cleared from init rs i r bytes before after of are here was is =
    let parts = split_at rs i r here in
    let front = take i rs in
    let f : ℕ → ℕ = λ k. bit_and (get_or bytes k 0) (bits_kept init front (from + k)) in
    let g : ℕ → ℕ = λ k. bit_and (get_or before k 0) (bits_kept init (r ∷ []) (from + k)) in
    let size : length before ≡ length bytes = ap length was ∙ length-list_of f (length bytes) in
    let long : length after ≡ length before = ap length is ∙ length-list_of g (length before) in
    subst (λ (l : List Reloc). after ≡ cleared_from from init l bytes) (sym parts.0)
    (filled (λ k. bit_and (get_or bytes k 0) (bits_kept init (front ++ r ∷ []) (from + k))) bytes after (long ∙ size)
    (λ k lt. ap (λ (l : List ℕ). get_or l k 0) is ∙ get_or-map-range_with_len g 0 (length before) k k 0 (omega (arith, lt, size)) (omega arith)
    ∙ ap (λ (x : ℕ). bit_and x (bits_kept init (r ∷ []) (from + k))) (ap (λ (l : List ℕ). get_or l k 0) was ∙ get_or-map-range_with_len f 0 (length bytes) k k 0 lt (omega arith))
    ∙ clearing_goes_on of.component front (drop (suc i) rs) r init (from + k) (get_or bytes k 0) of.is (of.relocs ∙ parts.1) (are k)))

-- the same as a loop goes
pub loop_cleared : (from : ℕ) (init : Bool) (rs : List Reloc) (i : ℕ) (d : Reloc) (bytes before after : List ℕ) → AreOfComponent rs → AreBytes bytes → i < length rs
    → before ≡ cleared_from from init (take i rs) bytes → after ≡ cleared_from from init (get_or rs i d ∷ []) before → after ≡ cleared_from from init (take (i + 1) rs) bytes
loop_cleared from init rs i d bytes before after of are lt was is =
    let one : suc i ≡ i + 1 = omega arith in
    subst (λ (n : ℕ). after ≡ cleared_from from init (take n rs) bytes) one (next_cleared from init rs i (get_or rs i d) bytes before after of are (slice_get-get_or rs i d lt) was is)

-- how long cleared bytes are
pub length-cleared : (from : ℕ) (init : Bool) (rs : List Reloc) (bytes : List ℕ) → length (cleared_from from init rs bytes) ≡ length bytes
length-cleared from init rs bytes = length-list_of (λ i. bit_and (get_or bytes i 0) (bits_kept init rs (from + i))) (length bytes)

-- all elements
pub all_taken : (xs : List Reloc) (n : ℕ) → length xs ≤ n → take n xs ≡ xs
all_taken xs n le = take_all n xs le
