-- Bytes as value bits and others, and what lies behind a field's width.
use Rattle.std.proofs.Common.{◌≡◌, ℕ, suc, ◌+◌, ◌-◌, ◌<◌, ◌≤◌, inl, inr, Bool, true, ℤ, List, [], ◌∷◌, length, get_or, eqb, map, replicate, refl, sym, ap, ap₂, ◌∙◌, arith}
use Rattle.std.specs.Prelude.{nat_lt, bit_and, ◌||◌}
use Rattle.std.specs.List.{list_all}
use Rattle.std.proofs.lemmas.Bool.{agree_below, agree_below_at, and_parts, cases_lt, le-ltb, eqb-true}
use Rattle.std.proofs.lemmas.List.{get_or_past}
use Rattle.avr_reloc.specs.declared.kind.RelocType.{RelocType}
use Rattle.avr_reloc.specs.declared.kind.Shape.{Shape}
use Rattle.avr_reloc.specs.declared.kind.Shape.TheVariants as shapes
use Rattle.avr_reloc.specs.Kind.{shape_of, width_of, mask_of}
use Rattle.avr_reloc.specs.Field.{AreBytes, keep_of, masked, HasZeroValue, FieldHolds}
use Rattle.avr_reloc.proofs.Tables.{same_below}
use Rattle.avr_reloc.proofs.Patched.{get_or-masked, mask_length, width_four}

-- ---- Clearing

-- each byte is its bits in m and its bits outside
abbrev splits : ℕ → Bool
splits m = agree_below (λ b. eqb (bit_and b m + bit_and b (0xFF - m)) b) (λ b. true) 256

-- all but the first
abbrev rest : List ℕ → List ℕ
rest [] = []
rest (x ∷ xs) = xs

-- bytes with no bit in the mask are their bits outside it
restored : (ms q : List ℕ) → AreBytes q → length q ≤ length ms → list_all splits ms ≡ true → masked q ms ≡ replicate (length q) 0
    → masked q (map (λ b. 0xFF - b) ms) ≡ q
restored ms [] bytes len all none = refl
restored [] (b ∷ q) bytes len all none = absurd (omega (arith, len))
restored (m ∷ ms) (b ∷ q) bytes len all none =
    let both = and_parts (splits m) (list_all splits ms) all in
    let whole = same_below (λ b. bit_and b m + bit_and b (0xFF - m)) (λ b. b) 256 both.0 b (bytes 0) in
    let zero : bit_and b m ≡ 0 = ap (λ (l : List ℕ). get_or l 0 0) none in
    let here : bit_and b (0xFF - m) ≡ b = omega (arith, whole, zero) in
    ap₂ (λ (x : ℕ) (xs : List ℕ). x ∷ xs) here (restored ms q (λ i. bytes (suc i)) (omega (arith, len)) both.1 (ap rest none))

-- each mask of the table splits bytes
mask_splits : (s : Shape) → list_all splits (mask_of s) ≡ true
mask_splits shapes.Byte = refl
mask_splits shapes.Word = refl
mask_splits shapes.Long = refl
mask_splits shapes.Immediate = refl
mask_splits shapes.Branch = refl
mask_splits shapes.Jump = refl
mask_splits shapes.Call = refl
mask_splits shapes.Displacement = refl
mask_splits shapes.Adiw = refl

-- a patched field with its value bits cleared is the package's field
pub cleared : (t : RelocType) (x place : ℤ) (q f : List ℕ) → AreBytes q → length q ≡ width_of (shape_of t) → HasZeroValue (shape_of t) q
    → FieldHolds t x place q f → masked f (keep_of (shape_of t)) ≡ q
cleared t x place q f bytes wide none field =
    let s = shape_of t in
    let empty : masked q (mask_of s) ≡ replicate (length q) 0 = rw wide none in
    field.outside ∙ restored (mask_of s) q bytes (omega (arith, wide, mask_length s, width_four s)) (mask_splits s) empty

-- ---- Behind the width

-- a table's entry at each index below n
abbrev full_behind : List ℕ → ℕ → Bool
full_behind keep w = agree_below (λ i. nat_lt i w || eqb (get_or keep i 0) 0xFF) (λ i. true) 4

-- each mask leaves all bits behind the width
keep_full : (s : Shape) → full_behind (keep_of s) (width_of s) ≡ true
keep_full shapes.Byte = refl
keep_full shapes.Word = refl
keep_full shapes.Long = refl
keep_full shapes.Immediate = refl
keep_full shapes.Branch = refl
keep_full shapes.Jump = refl
keep_full shapes.Call = refl
keep_full shapes.Displacement = refl
keep_full shapes.Adiw = refl

-- from the width on all bits are kept
pub keep_behind : (s : Shape) (i : ℕ) → width_of s ≤ i → i < 4 → get_or (keep_of s) i 0 ≡ 0xFF
keep_behind s i le lt =
    let here = agree_below_at (λ i. nat_lt i (width_of s) || eqb (get_or (keep_of s) i 0) 0xFF) (λ i. true) 4 i (keep_full s) lt in
    eqb-true (get_or (keep_of s) i 0) 0xFF (rw (le-ltb i (width_of s) le) at here)

-- from the width on no bit is set
pub set_behind : (s : Shape) (set : List ℕ) → length set ≡ 4 → AreBytes set → masked set (keep_of s) ≡ 0 ∷ 0 ∷ 0 ∷ 0 ∷ []
    → (i : ℕ) → width_of s ≤ i → get_or set i 0 ≡ 0
set_behind s set four bytes apart i le =
    elim (cases_lt i 4) [
      | inl lt ↦
          let none : bit_and (get_or set i 0) (get_or (keep_of s) i 0) ≡ get_or (0 ∷ 0 ∷ 0 ∷ 0 ∷ []) i 0 =
          sym (get_or-masked set (keep_of s) i) ∙ ap (λ (l : List ℕ). get_or l i 0) apart in
          let zero = same_below (λ i. get_or (0 ∷ 0 ∷ 0 ∷ 0 ∷ []) i 0) (λ i. 0) 4 refl i lt in
          let whole = same_below (λ b. bit_and b 0xFF) (λ b. b) 256 refl (get_or set i 0) (bytes i) in
          sym whole ∙ ap (bit_and (get_or set i 0)) (sym (keep_behind s i le lt)) ∙ none ∙ zero
      | inr past ↦ get_or_past set i 0 (omega (arith, four, past))
    ]
