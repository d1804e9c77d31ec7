-- Value bits that are cleared.
use Rattle.std.proofs.Common.{lit≤, ◌≡◌, ℕ, zero, suc, ◌+◌, ◌-◌, ◌<◌, ◌≤◌, Bool, true, false, cond, List, [], ◌∷◌, ◌++◌, length, get_or, set, map, take, refl, sym, ap, subst, ◌∙◌, inl, inr, arith, bit_and, leb, ltb}
use Rattle.std.specs.Prelude.{◌&&◌}
use Rattle.std.specs.List.{filter}
use Rattle.std.proofs.lemmas.Bool.{cases_order}
use Rattle.std.proofs.lemmas.Bool.Decides.{nat_tests}
use Rattle.std.proofs.lemmas.List.{get_or-set_same, get_or-set_other, get_or_default, same_lists, take_more}
use Rattle.std.proofs.lemmas.List.Elements.{filter-append}
use Rattle.std.proofs.lemmas.List.FromFn.{length-map-range_with_len, get_or-map-range_with_len}
use Rattle.avr_reloc.specs.Kind.{shape_of, mask_of, width_of}
use Rattle.avr_reloc.specs.declared.kind.Shape.{Shape}
use Rattle.avr_reloc.specs.declared.kind.Shape.TheVariants as shapes
use Rattle.avr_reloc.specs.Field.{keep_of}
use Rattle.object_packer.specs.declared.kept.Kept.{Kept}
use Rattle.object_packer.specs.Relocations.{kept_width}
use Rattle.object_packer.specs.Packed.{clear_byte, clear_field, cleared}

-- byte j, where the first n bytes of a field at `off` were cleared
abbrev pub cleared_at : List ℕ → ℕ → ℕ → List ℕ → ℕ → ℕ
cleared_at a off n keep j = cond (leb off j && ltb j (off + n)) (bit_and (get_or a j 0) (get_or keep (j - off) 0)) (get_or a j 0)

pub clear_step : (a b : List ℕ) (off i : ℕ) (keep : List ℕ) (v : ℕ) → off + i < length b → v ≡ bit_and (get_or b (off + i) 0) (get_or keep i 0)
    → ((j : ℕ) → get_or b j 0 ≡ cleared_at a off i keep j) → (j : ℕ) → get_or (set b (off + i) v) j 0 ≡ cleared_at a off (i + 1) keep j
clear_step a b off i keep v lt is each j =
    elim (cases_order j (off + i)) [
      | inl e ↦ subst (λ k. get_or (set b (off + i) v) k 0 ≡ cleared_at a off (i + 1) keep k) (sym e) here
      | inr (inl l) ↦ get_or-set_other b (off + i) j v 0 (λ e. absurd (omega (arith, e))) ∙ each j ∙ other (let t : (leb off j && ltb j (off + i)) ≡ (leb off j && ltb j (off + (i + 1))) = grind (arith, nat_tests) in t)
      | inr (inr g) ↦ get_or-set_other b (off + i) j v 0 (λ e. absurd (omega (arith, e))) ∙ each j ∙ other (let t : (leb off j && ltb j (off + i)) ≡ (leb off j && ltb j (off + (i + 1))) = grind (arith, nat_tests) in t)
    ]
  where
    other : (leb off j && ltb j (off + i)) ≡ (leb off j && ltb j (off + (i + 1))) → cleared_at a off i keep j ≡ cleared_at a off (i + 1) keep j
    other t = ap (λ c. cond c (bit_and (get_or a j 0) (get_or keep (j - off) 0)) (get_or a j 0)) t

    same : get_or b (off + i) 0 ≡ get_or a (off + i) 0
    same = let t : (leb off (off + i) && ltb (off + i) (off + i)) ≡ false = grind (arith, nat_tests) in
        each (off + i) ∙ ap (λ c. cond c (bit_and (get_or a (off + i) 0) (get_or keep (off + i - off) 0)) (get_or a (off + i) 0)) t

    back : off + i - off ≡ i
    back = omega arith

    here : get_or (set b (off + i) v) (off + i) 0 ≡ cleared_at a off (i + 1) keep (off + i)
    here = let t : (leb off (off + i) && ltb (off + i) (off + (i + 1))) ≡ true = grind (arith, nat_tests) in
        get_or-set_same b (off + i) v 0 lt ∙ is ∙ ap (λ n. bit_and n (get_or keep i 0)) same ∙ ap (λ n. bit_and (get_or a (off + i) 0) (get_or keep n 0)) (sym back)
        ∙ sym (ap (λ c. cond c (bit_and (get_or a (off + i) 0) (get_or keep (off + i - off) 0)) (get_or a (off + i) 0)) t)

pub clear_start : (a : List ℕ) (off : ℕ) (keep : List ℕ) (j : ℕ) → get_or a j 0 ≡ cleared_at a off 0 keep j
clear_start a off keep j = let t : (leb off j && ltb j (off + 0)) ≡ false = grind (arith, nat_tests) in sym (ap (λ b. cond b (bit_and (get_or a j 0) (get_or keep (j - off) 0)) (get_or a j 0)) t)

-- one field more
pub cleared_more : (xs : List Kept) (x : Kept) (bytes : List ℕ) → cleared (xs ++ x ∷ []) bytes ≡ clear_field x (cleared xs bytes)
cleared_more [] x bytes = refl
cleared_more (y ∷ ys) x bytes = cleared_more ys x (clear_field y bytes)

pub length_clear : (x : Kept) (bytes : List ℕ) → length (clear_field x bytes) ≡ length bytes
length_clear x bytes = length-map-range_with_len (clear_byte x bytes) 0 (length bytes)

pub length_cleared : (xs : List Kept) (bytes : List ℕ) → length (cleared xs bytes) ≡ length bytes
length_cleared [] bytes = refl
length_cleared (x ∷ xs) bytes = length_cleared xs (clear_field x bytes) ∙ length_clear x bytes

pub filter_yes : (p : Kept → Bool) (xs : List Kept) (x : Kept) → p x ≡ true → filter p (xs ++ x ∷ []) ≡ filter p xs ++ x ∷ []
filter_yes p xs x e = filter-append p xs (x ∷ []) ∙ ap (λ b. filter p xs ++ cond b (x ∷ []) []) e

pub filter_no : (p : Kept → Bool) (xs : List Kept) (x : Kept) → p x ≡ false → filter p (xs ++ x ∷ []) ≡ filter p xs
filter_no p xs x e = filter-append p xs (x ∷ []) ∙ ap (λ b. filter p xs ++ cond b (x ∷ []) []) e ∙ nothing (filter p xs)
  where
    nothing : (ys : List Kept) → ys ++ [] ≡ ys
    nothing [] = refl
    nothing (y ∷ ys) = ap (λ zs. y ∷ zs) (nothing ys)

-- a loop's step over the fields of a part
pub fields_yes : (p : Kept → Bool) (xs : List Kept) (i : ℕ) (d : Kept) (old now new : List ℕ) → i < length xs → p (get_or xs i d) ≡ true
    → now ≡ cleared (filter p (take i xs)) old → new ≡ clear_field (get_or xs i d) now → new ≡ cleared (filter p (take (i + 1) xs)) old
fields_yes p xs i d old now new lt passes before after =
    after ∙ ap (clear_field (get_or xs i d)) before ∙ sym (cleared_more (filter p (take i xs)) (get_or xs i d) old)
    ∙ sym (ap (λ ys. cleared ys old) (ap (filter p) (take_more xs i d lt) ∙ filter_yes p (take i xs) (get_or xs i d) passes))

pub fields_no : (p : Kept → Bool) (xs : List Kept) (i : ℕ) (d : Kept) (old now : List ℕ) → i < length xs → p (get_or xs i d) ≡ false
    → now ≡ cleared (filter p (take i xs)) old → now ≡ cleared (filter p (take (i + 1) xs)) old
fields_no p xs i d old now lt nope before =
    before ∙ sym (ap (λ ys. cleared ys old) (ap (filter p) (take_more xs i d lt) ∙ filter_no p (take i xs) (get_or xs i d) nope))

-- all bytes of a field are cleared
pub clear_done : (x : Kept) (a b : List ℕ) (n : ℕ) → length b ≡ length a → n ≡ kept_width x → ((j : ℕ) → get_or b j 0 ≡ cleared_at a x.offset n (keep_of (shape_of x.kind)) j)
    → b ≡ clear_field x a
clear_done x a b n size all each =
    same_lists b (clear_field x a) (size ∙ sym (length_clear x a)) (λ k d lt. get_or_default b k d 0 lt ∙ each k ∙ ap (λ m. cleared_at a x.offset m (keep_of (shape_of x.kind)) k) all
    ∙ sym (get_or-map-range_with_len (clear_byte x a) 0 (length a) k k d (omega (arith, size, lt)) (omega arith)))

-- four bytes of a field's value bits
mask_four : (s : Shape) → length (mask_of s) ≡ 4
mask_four shapes.Byte = refl
mask_four shapes.Word = refl
mask_four shapes.Long = refl
mask_four shapes.Immediate = refl
mask_four shapes.Branch = refl
mask_four shapes.Jump = refl
mask_four shapes.Call = refl
mask_four shapes.Displacement = refl
mask_four shapes.Adiw = refl

pub width_four : (s : Shape) → width_of s ≤ 4
width_four shapes.Byte = lit≤ tt
width_four shapes.Word = lit≤ tt
width_four shapes.Long = lit≤ tt
width_four shapes.Immediate = lit≤ tt
width_four shapes.Branch = lit≤ tt
width_four shapes.Jump = lit≤ tt
width_four shapes.Call = lit≤ tt
width_four shapes.Displacement = lit≤ tt
width_four shapes.Adiw = lit≤ tt

map_at : (xs : List ℕ) (i : ℕ) → i < length xs → get_or (map (λ b. 255 - b) xs) i 0 ≡ 255 - get_or xs i 0
map_at [] i lt = absurd (omega (arith, lt))
map_at (x ∷ xs) zero lt = refl
map_at (x ∷ xs) (suc i) lt = map_at xs i (omega (arith, lt))

-- a byte that a field keeps, of its first four
pub keep_at : (s : Shape) (i m : ℕ) (mask : List ℕ) → mask ≡ mask_of s → i < 4 → bit_and m (255 - get_or mask i 0) ≡ bit_and m (get_or (keep_of s) i 0)
keep_at s i m mask same lt =
    ap (λ k. bit_and m (255 - get_or k i 0)) same ∙ ap (λ n. bit_and m n) (sym (map_at (mask_of s) i (omega (arith, mask_four s, lt))))
