-- The value bits of a package's fields are zeros.
use Rattle.std.proofs.Common.{◌≡◌, ℕ, zero, suc, ◌+◌, ◌-◌, ◌<◌, ◌≤◌, Bool, true, false, cond, List, [], ◌∷◌, length, get_or, replicate, refl, sym, ap, subst, ◌∙◌, arith, bit_and, leb, ltb, slice_range}
use Rattle.std.specs.Prelude.{◌&&◌}
use Rattle.std.specs.List.{AllByRecursion}
use Rattle.std.specs.Int.Bits.{and_zero_l, and_zero_r}
use Rattle.std.proofs.lemmas.Nat.{and_assoc, and_comm}
use Rattle.std.proofs.lemmas.Bool.Decides.{nat_tests}
use Rattle.std.proofs.lemmas.Grind.{same_number_lists}
use Rattle.std.proofs.lemmas.List.{length-replicate, get_or-replicate}
use Rattle.std.proofs.lemmas.List.FromFn.{get_or-map-range_with_len}
use Rattle.avr_reloc.specs.Kind.{shape_of, mask_of}
use Rattle.avr_reloc.specs.declared.kind.Shape.{Shape}
use Rattle.avr_reloc.specs.declared.kind.Shape.TheVariants as shapes
use Rattle.avr_reloc.specs.Field.{keep_of, masked, HasZeroValue}
use Rattle.avr_reloc.proofs.Patched.{get_or-masked, mask_length}
use Rattle.avr_reloc.proofs.Fixups.{get_or-slice, length-field}
use Rattle.object_packer.specs.declared.kept.Kept.{Kept}
use Rattle.object_packer.specs.Relocations.{kept_width}
use Rattle.object_packer.specs.Packed.{kept_covers, clear_byte, clear_field, cleared}
use Rattle.object_packer.proofs.Clearing.{length_clear, width_four}
use Rattle.object_packer.proofs.Elements.{all_so}

-- ---- bits

-- a shape keeps no value bit
apart : (s : Shape) → masked (keep_of s) (mask_of s) ≡ 0 ∷ 0 ∷ 0 ∷ 0 ∷ []
apart shapes.Byte = refl
apart shapes.Word = refl
apart shapes.Long = refl
apart shapes.Immediate = refl
apart shapes.Branch = refl
apart shapes.Jump = refl
apart shapes.Call = refl
apart shapes.Displacement = refl
apart shapes.Adiw = refl

abbrev zeros : List ℕ
zeros = 0 ∷ 0 ∷ 0 ∷ 0 ∷ []

zero_at : (i : ℕ) → get_or zeros i 0 ≡ 0
zero_at zero = refl
zero_at (suc zero) = refl
zero_at (suc (suc zero)) = refl
zero_at (suc (suc (suc zero))) = refl
zero_at (suc (suc (suc (suc i)))) = refl

bits_apart : (s : Shape) (i : ℕ) → bit_and (get_or (keep_of s) i 0) (get_or (mask_of s) i 0) ≡ 0
bits_apart s i = sym (get_or-masked (keep_of s) (mask_of s) i) ∙ ap (λ (l : List ℕ). get_or l i 0) (apart s) ∙ zero_at i

-- ---- fields that are cleared

-- bits that are zeros stay zeros where another field is cleared
one_stays : (y : Kept) (bytes : List ℕ) (j m : ℕ) → j < length bytes → bit_and (get_or bytes j 0) m ≡ 0 → bit_and (get_or (clear_field y bytes) j 0) m ≡ 0
one_stays y bytes j m lt e = ap (λ n. bit_and n m) (get_or-map-range_with_len (clear_byte y bytes) 0 (length bytes) j j 0 lt (omega arith)) ∙ from (kept_covers j y) (get_or (keep_of (shape_of y.kind)) (j - y.offset) 0)
  where
    from : (b : Bool) (k : ℕ) → bit_and (cond b (bit_and (get_or bytes j 0) k) (get_or bytes j 0)) m ≡ 0
    from false k = e
    from true k = and_assoc m (get_or bytes j 0) k ∙ ap (bit_and (get_or bytes j 0)) (and_comm k m) ∙ sym (and_assoc k (get_or bytes j 0) m) ∙ ap (λ n. bit_and n k) e ∙ and_zero_l k

stay : (ys : List Kept) (bytes : List ℕ) (j m : ℕ) → j < length bytes → bit_and (get_or bytes j 0) m ≡ 0 → bit_and (get_or (cleared ys bytes) j 0) m ≡ 0
stay [] bytes j m lt e = e
stay (y ∷ ys) bytes j m lt e = stay ys (clear_field y bytes) j m (subst (λ (n : ℕ). j < n) (sym (length_clear y bytes)) lt) (one_stays y bytes j m lt e)

-- the value bits of a field are zeros
abbrev pub IsClear : List ℕ → Kept → Type 0
IsClear bytes x = (i : ℕ) → i < kept_width x → bit_and (get_or bytes (x.offset + i) 0) (get_or (mask_of (shape_of x.kind)) i 0) ≡ 0

own_clear : (x : Kept) (bytes : List ℕ) → x.offset + kept_width x ≤ length bytes → IsClear (clear_field x bytes) x
own_clear x bytes inside i lt =
    let covered : (leb x.offset (x.offset + i) && ltb (x.offset + i) (x.offset + kept_width x)) ≡ true = grind (arith, nat_tests) in
    let back : x.offset + i - x.offset ≡ i = omega arith in
    let v = get_or bytes (x.offset + i) 0 in
    let m = get_or (mask_of (shape_of x.kind)) i 0 in
    ap (λ n. bit_and n m) (get_or-map-range_with_len (clear_byte x bytes) 0 (length bytes) (x.offset + i) (x.offset + i) 0 (omega (arith, inside, lt)) (omega arith))
    ∙ ap (λ b. bit_and (cond b (bit_and v (get_or (keep_of (shape_of x.kind)) (x.offset + i - x.offset) 0)) v) m) covered
    ∙ ap (λ k. bit_and (bit_and v (get_or (keep_of (shape_of x.kind)) k 0)) m) back
    ∙ and_assoc m v (get_or (keep_of (shape_of x.kind)) i 0) ∙ ap (bit_and v) (bits_apart (shape_of x.kind) i) ∙ and_zero_r v

-- where all of these fields are cleared, each is
pub all_clear : (xs : List Kept) (bytes : List ℕ) → AllByRecursion (λ x. x.offset + kept_width x ≤ length bytes) xs → AllByRecursion (IsClear (cleared xs bytes)) xs
all_clear [] bytes all = tt
all_clear (x ∷ xs) bytes all = (
  λ i lt. stay xs (clear_field x bytes) (x.offset + i) _ (let n = length_clear x bytes in let inside = all.0 in omega (arith, n, inside, lt)) (own_clear x bytes all.0 i lt),
  all_clear xs (clear_field x bytes) (all_so (λ y. y.offset + kept_width y ≤ length bytes) (λ y. y.offset + kept_width y ≤ length (clear_field x bytes)) (λ y le. subst (λ (n : ℕ). y.offset + kept_width y ≤ n) (sym (length_clear x bytes)) le) xs all.1),
)

-- ---- as a package wants it

masked_length : (q mask : List ℕ) → length q ≤ length mask → length (masked q mask) ≡ length q
masked_length [] mask le = refl
masked_length (x ∷ q) [] le = absurd (omega (arith, le))
masked_length (x ∷ q) (m ∷ mask) le = ap suc (masked_length q mask (omega (arith, le)))

pub zero_value : (x : Kept) (bytes : List ℕ) → x.offset + kept_width x ≤ length bytes → IsClear bytes x
    → HasZeroValue (shape_of x.kind) (slice_range bytes x.offset (x.offset + kept_width x))
zero_value x bytes inside clear =
    let w = kept_width x in
    let q = slice_range bytes x.offset (x.offset + w) in
    let mask = mask_of (shape_of x.kind) in
    let long : length q ≡ w = length-field bytes x.offset w inside in
    let wide : length (masked q mask) ≡ w = masked_length q mask (omega (arith, long, mask_length (shape_of x.kind), width_four (shape_of x.kind))) ∙ long in
    same_number_lists (masked q mask) (replicate w 0) (wide ∙ sym (length-replicate w 0))
    (λ k lt. let low : k < w = omega (arith, lt, wide) in
    get_or-masked q mask k ∙ ap (λ n. bit_and n (get_or mask k 0)) (get_or-slice bytes x.offset (x.offset + w) k (omega (arith, low))) ∙ clear k low ∙ sym (get_or-replicate w k 0 0 low))
