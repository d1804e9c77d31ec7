-- Bytes that agree outside the value bits of fields are patched alike.
use Rattle.std.proofs.Common.{◌≡◌, ℕ, suc, ◌+◌, ◌-◌, ◌<◌, ◌≤◌, Bool, true, false, List, [], ◌∷◌, ◌++◌, length, get_or, drop, refl, sym, ap, subst, ◌∙◌, arith, bit_and, leb, ltb, length-drop, slice_range}
use Rattle.std.specs.Prelude.{◌&&◌}
use Rattle.std.specs.List.{flat_map, list_any, AllByRecursion}
use Rattle.std.proofs.lemmas.Bool.{or_parts}
use Rattle.std.proofs.lemmas.Bool.Decides.{nat_tests}
use Rattle.std.proofs.lemmas.Grind.{same_number_lists}
use Rattle.std.proofs.lemmas.List.{length-take}
use Rattle.avr_reloc.specs.declared.kind.RelocType.{RelocType}
use Rattle.avr_reloc.specs.declared.fixup.Fixup.{Fixup}
use Rattle.avr_reloc.specs.Kind.{shape_of, width_of}
use Rattle.avr_reloc.specs.Field.{keep_of, masked}
use Rattle.avr_reloc.specs.Fixups.{end_of, covers, field_of, HasField, ArePut}
use Rattle.avr_reloc.proofs.Patched.{get_or-masked}
use Rattle.avr_reloc.proofs.Fixups.{get_or-slice}
use Rattle.avr_elf.specs.Object.{Object}
use Rattle.object_packer.specs.Packed.{kept_covers}
use Rattle.object_packer.proofs.Clearing.{length_cleared}
use Rattle.name_laws.specs.NameImage.{plain_of_objects}
use Rattle.name_laws.proofs.Types.{Kept}
use Rattle.name_laws.proofs.Lists.{all_so, all_with}
use Rattle.name_laws.proofs.Defined.{IsIn}
use Rattle.name_laws.proofs.Packed.{packed_part}
use Rattle.name_laws.proofs.Told.{told_ordered}
use Rattle.name_laws.proofs.Agree.{Agrees, agree}
use Rattle.name_laws.proofs.Fields.{fields, fields_rise, packed_is, fields_from_told, told_from_fields}

-- ---- one field

-- at each place of a field, the bits that are kept are the same
abbrev pub SameKept : List ℕ → List ℕ → ℕ → RelocType → Type 0
SameKept p q place kind =
    (at : ℕ) → (leb place at && ltb at (place + width_of (shape_of kind))) ≡ true
    → bit_and (get_or p at 0) (get_or (keep_of (shape_of kind)) (at - place) 0) ≡ bit_and (get_or q at 0) (get_or (keep_of (shape_of kind)) (at - place) 0)

masked_alike : (a b ks : List ℕ) → length a ≡ length b → length (masked a ks) ≡ length (masked b ks)
masked_alike [] [] ks e = refl
masked_alike [] (y ∷ b) ks e = absurd (omega (arith, e))
masked_alike (x ∷ a) [] ks e = absurd (omega (arith, e))
masked_alike (x ∷ a) (y ∷ b) [] e = refl
masked_alike (x ∷ a) (y ∷ b) (k ∷ ks) e = ap suc (masked_alike a b ks (omega (arith, e)))

masked_short : (a ks : List ℕ) → length (masked a ks) ≤ length a
masked_short [] ks = omega arith
masked_short (x ∷ a) [] = omega arith
masked_short (x ∷ a) (k ∷ ks) = omega (arith, masked_short a ks)

slice_long : (b : List ℕ) (low high : ℕ) → length (slice_range b low high) ≤ high - low
slice_long b low high = omega (arith, length-take (high - low) (drop low b))

slice_alike : (a b : List ℕ) (low high : ℕ) → length a ≡ length b → length (slice_range a low high) ≡ length (slice_range b low high)
slice_alike a b low high e = omega (arith, e, length-take (high - low) (drop low a), length-take (high - low) (drop low b), length-drop low a, length-drop low b)

-- so its bits outside the value are
pub same_masked : (p q : List ℕ) (x : Fixup) → length p ≡ length q → SameKept p q x.place x.kind → masked (field_of p x) (keep_of (shape_of x.kind)) ≡ masked (field_of q x) (keep_of (shape_of x.kind))
same_masked p q x long same =
    let ks = keep_of (shape_of x.kind) in
    let w = width_of (shape_of x.kind) in
    same_number_lists (masked (field_of p x) ks) (masked (field_of q x) ks) (masked_alike (field_of p x) (field_of q x) ks (slice_alike p q x.place (end_of x) long))
    (λ k lt.
    let low : x.place + k < end_of x = omega (arith, lt, masked_short (field_of p x) ks, slice_long p x.place (end_of x)) in
    let here : (leb x.place (x.place + k) && ltb (x.place + k) (x.place + w)) ≡ true = grind (arith, nat_tests) in
    let back : x.place + k - x.place ≡ k = omega arith in
    get_or-masked (field_of p x) ks k ∙ ap (λ n. bit_and n (get_or ks k 0)) (get_or-slice p x.place (end_of x) k low)
    ∙ subst (λ (i : ℕ). bit_and (get_or p (x.place + k) 0) (get_or ks i 0) ≡ bit_and (get_or q (x.place + k) 0) (get_or ks i 0)) back (same (x.place + k) here)
    ∙ ap (λ n. bit_and n (get_or ks k 0)) (sym (get_or-slice q x.place (end_of x) k low)) ∙ sym (get_or-masked (field_of q x) ks k))

-- ---- many fields

pub none_from_any : {X : Type 0} (p : X → Bool) (xs : List X) → list_any p xs ≡ false → AllByRecursion (λ x. p x ≡ false) xs
none_from_any p [] e = tt
none_from_any p (x ∷ xs) e = let parts = or_parts (p x) (list_any p xs) e in (parts.0, none_from_any p xs parts.1)

pub any_from_none : {X : Type 0} (p : X → Bool) (xs : List X) → AllByRecursion (λ x. p x ≡ false) xs → list_any p xs ≡ false
any_from_none p [] all = refl
any_from_none p (x ∷ xs) all = rw all.0 (any_from_none p xs all.1)

all_places : {X : Type 0} (R : X → ℕ → Type 0) (xs : List X) → ((at : ℕ) → AllByRecursion (λ x. R x at) xs) → AllByRecursion (λ x. (at : ℕ) → R x at) xs
all_places R [] h = tt
all_places R (x ∷ xs) h = (λ at. (h at).0, all_places R xs (λ at. (h at).1))

-- fields of two lists with the same elements, over bytes that agree
pub put_over : (xs ys : List Fixup) (p q b : List ℕ) → length p ≡ length q
    → ((P : Fixup → Type 0) → AllByRecursion P xs → AllByRecursion P ys) → ((P : Fixup → Type 0) → AllByRecursion P ys → AllByRecursion P xs)
    → ((at : ℕ) → list_any (covers at) xs ≡ false → get_or p at 0 ≡ get_or q at 0)
    → AllByRecursion (λ (x : Fixup). masked (field_of p x) (keep_of (shape_of x.kind)) ≡ masked (field_of q x) (keep_of (shape_of x.kind))) xs
    → ArePut xs p b → ArePut ys q b
put_over xs ys p q b long forth back plain same put = record {
  size = put.size ∙ long;
  plain = λ at none.
      let before : list_any (covers at) xs ≡ false = any_from_none (covers at) xs (back (λ x. covers at x ≡ false) (none_from_any (covers at) ys none)) in
      put.plain at before ∙ plain at before;
  fields = forth (HasField q b) (all_with (HasField p b) (λ (x : Fixup). masked (field_of p x) (keep_of (shape_of x.kind)) ≡ masked (field_of q x) (keep_of (shape_of x.kind))) (HasField q b) xs
      (λ x holds e. record { possible = holds.possible; width = holds.width; outside = holds.outside ∙ e; inside = holds.inside }) put.fields same);
}

-- ---- the fields of a set of objects

module _ (os : List Object) (all : AllByRecursion (IsIn os) os) where
  packed_bytes : List ℕ
  packed_bytes = flat_map (packed_part false) os ++ flat_map (packed_part true) os

  agrees : (at : ℕ) → Agrees (fields os all) at (get_or (flat_map (packed_part false) os ++ flat_map (packed_part true) os) at 0) (get_or (plain_of_objects os) at 0)
  agrees at = subst (λ (ys : List ℕ). Agrees (fields os all) at (get_or ys at 0) (get_or (plain_of_objects os) at 0)) (sym (packed_is os all)) (agree 0 (fields os all) (plain_of_objects os) at (fields_rise os all))

  pub packed_long : length (flat_map (packed_part false) os ++ flat_map (packed_part true) os) ≡ length (plain_of_objects os)
  packed_long = ap (λ (ys : List ℕ). length ys) (packed_is os all) ∙ length_cleared (fields os all) (plain_of_objects os)

  -- bytes in no field are the same
  pub same_outside : (at : ℕ) → AllByRecursion (λ t. covers at t.0 ≡ false) (told_ordered os) → get_or (flat_map (packed_part false) os ++ flat_map (packed_part true) os) at 0 ≡ get_or (plain_of_objects os) at 0
  same_outside at none =
      (agrees at).outside (any_from_none (kept_covers at) (fields os all)
      (fields_from_told os all (λ place kind. (leb place at && ltb at (place + width_of (shape_of kind))) ≡ false) none))

  -- so are the bits outside the value of each
  pub same_inside : AllByRecursion (λ (t : Fixup × Bool). masked (field_of (flat_map (packed_part false) os ++ flat_map (packed_part true) os) t.0) (keep_of (shape_of t.0.kind)) ≡ masked (field_of (plain_of_objects os) t.0) (keep_of (shape_of t.0.kind))) (told_ordered os)
  same_inside =
      let p = flat_map (packed_part false) os ++ flat_map (packed_part true) os in
      all_so (λ (t : Fixup × Bool). SameKept p (plain_of_objects os) t.0.place t.0.kind)
      (λ (t : Fixup × Bool). masked (field_of p t.0) (keep_of (shape_of t.0.kind)) ≡ masked (field_of (plain_of_objects os) t.0) (keep_of (shape_of t.0.kind))) (told_ordered os)
      (λ t same. same_masked p (plain_of_objects os) t.0 packed_long same)
      (told_from_fields os all (SameKept p (plain_of_objects os))
      (all_places (λ (x : Kept) at. kept_covers at x ≡ true → bit_and (get_or p at 0) (get_or (keep_of (shape_of x.kind)) (at - x.offset) 0) ≡ bit_and (get_or (plain_of_objects os) at 0) (get_or (keep_of (shape_of x.kind)) (at - x.offset) 0))
      (fields os all) (λ at. (agrees at).inside)))
