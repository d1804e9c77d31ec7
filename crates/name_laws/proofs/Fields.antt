-- What is patched over the packages' bytes is what is patched over the objects'.
use Rattle.std.proofs.Common.{◌≡◌, ℕ, ◌+◌, ◌≤◌, Bool, true, false, List, [], ◌∷◌, ◌++◌, length, map, refl, sym, ap, subst, ◌∙◌, arith, append-nil, length-append}
use Rattle.std.specs.Prelude.{not}
use Rattle.std.specs.List.{filter, flat_map, enumerate_from, sum_by, AllByRecursion}
use Rattle.std.proofs.lemmas.List.Sums.{sum_by-cons}
use Rattle.avr_reloc.specs.declared.kind.RelocType.{RelocType}
use Rattle.avr_elf.specs.Object.{Object}
use Rattle.component_package.specs.link.Layout.{Room, code_total}
use Rattle.object_packer.specs.Parts.{part_length, part_bytes}
use Rattle.object_packer.specs.Relocations.{ordered, kept_width}
use Rattle.object_packer.specs.Packed.{cleared, stands_in, part_of}
use Rattle.object_packer.proofs.Clearing.{length_cleared}
use Rattle.object_packer.proofs.Sound.{faultless, IsKept, all_kept, length_part}
use Rattle.object_packer.proofs.Elements.{all_passing, all_filter}
use Rattle.name_laws.specs.NameImage.{rooms_of_objects, plain_of_objects}
use Rattle.name_laws.proofs.Types.{Kept}
use Rattle.name_laws.proofs.Lists.{all_front, all_back, all_joined, all_flat, flat_all, all_map, map_all, all_so, all_with}
use Rattle.name_laws.proofs.Defined.{IsIn}
use Rattle.name_laws.proofs.Packed.{packed_part}
use Rattle.name_laws.proofs.Told.{base_at, told, told_ordered}
use Rattle.name_laws.proofs.Bytes.{moved, cleared_both, area, parts, Follow, Fit, clear_area, size_in, room_in, size_is, follow}
use Rattle.name_laws.proofs.Agree.{Rise, rise_both, rise_part}

-- ---- fields within parts

side : (b : Bool) (x : Kept) → stands_in b x ≡ true → x.in_init ≡ b
side true x e = e
side false x e = off x.in_init e
  where
    off : (q : Bool) → not q ≡ true → q ≡ false
    off true e = absurd cc
    off false e = refl

other_side : (b : Bool) (x : Kept) → x.in_init ≡ b → stands_in b x ≡ true
other_side true x e = e
other_side false x e = ap not e

pub fits : (os : List Object) (b : Bool) (o : Object) → IsIn os o → Fit b o
fits os b o h =
    all_filter (λ x. x.offset + kept_width x ≤ length (part_bytes o (part_of b))) (stands_in b) (ordered o)
    (all_so (IsKept o) (λ x. stands_in b x ≡ true → x.offset + kept_width x ≤ length (part_bytes o (part_of b))) (ordered o)
    (λ x is e. subst (λ (n : ℕ). x.offset + kept_width x ≤ n) (sym (length_part o h.sound b)) (subst (λ (c : Bool). x.offset + kept_width x ≤ part_length o (part_of c)) (side b x e) is.inside))
    (all_kept o h.sound (faultless o h.faultless)))

-- fields of one part of all objects rise, and end within it
pub area_rises : (whole : List Object) (b : Bool) (at : ℕ → ℕ) (n low : ℕ) (os : List Object) → Follow b at n low os → AllByRecursion (IsIn whole) os
    → Rise low (area b at (enumerate_from n os)) × AllByRecursion (λ x. x.offset + kept_width x ≤ low + length (parts b os)) (area b at (enumerate_from n os))
area_rises whole b at n low [] follow all = (tt, tt)
area_rises whole b at n low (o ∷ os) follow all =
    let xs = filter (stands_in b) (ordered o) in
    let q = part_bytes o (part_of b) in
    let none = faultless o all.0.faultless in
    let rest = area_rises whole b at (n + 1) (low + length q) os follow.1 all.1 in
    let first : Rise low (map (moved low) xs) = rise_part o b low 0 low (ordered o) (all_kept o all.0.sound none) (λ m h. omega arith) none.apart in
    let ends : AllByRecursion (λ (x : Kept). x.offset + kept_width x ≤ low + length q) (map (moved low) xs) =
    all_map (λ (x : Kept). x.offset + kept_width x ≤ low + length q) (moved low) xs
    (all_so (λ (x : Kept). x.offset + kept_width x ≤ length q) (λ (x : Kept). low + x.offset + kept_width x ≤ low + length q) xs (λ x le. omega (arith, le)) (fits whole b o all.0)) in
    let here : at n ≡ low = follow.0 in
    let long : length (parts b (o ∷ os)) ≡ length q + length (parts b os) = length-append q (parts b os) in
    let back : List Kept = area b at (enumerate_from (n + 1) os) in
    subst (λ (d : ℕ). Rise low (map (moved d) xs ++ back) × AllByRecursion (λ (x : Kept). x.offset + kept_width x ≤ low + length (parts b (o ∷ os))) (map (moved d) xs ++ back)) (sym here) (
      rise_both low (low + length q) (map (moved low) xs) back first ends (omega arith) rest.0,
      all_joined (λ (x : Kept). x.offset + kept_width x ≤ low + length (parts b (o ∷ os))) (map (moved low) xs) back
          (all_so (λ (x : Kept). x.offset + kept_width x ≤ low + length q) (λ (x : Kept). x.offset + kept_width x ≤ low + length (parts b (o ∷ os))) (map (moved low) xs) (λ x le. omega (arith, le, long)) ends)
          (all_so (λ (x : Kept). x.offset + kept_width x ≤ low + length q + length (parts b os)) (λ (x : Kept). x.offset + kept_width x ≤ low + length (parts b (o ∷ os))) back (λ x le. omega (arith, le, long)) rest.1),
    )

-- ---- lengths

length_parts : (whole : List Object) (b : Bool) (os : List Object) → AllByRecursion (IsIn whole) os → length (parts b os) ≡ sum_by (size_in b) (rooms_of_objects os)
length_parts whole b [] all = refl
length_parts whole b (o ∷ os) all =
    let room : Room = room_in o in
    length-append (part_bytes o (part_of b)) (parts b os) ∙ ap (λ n. n + length (parts b os)) (length_part o all.0.sound b ∙ sym (size_is b o))
    ∙ ap (λ n. size_in b room + n) (length_parts whole b os all.1) ∙ sym (sum_by-cons (size_in b) room (rooms_of_objects os))

length_packed_parts : (b : Bool) (os : List Object) → length (flat_map (packed_part b) os) ≡ length (parts b os)
length_packed_parts b [] = refl
length_packed_parts b (o ∷ os) =
    length-append (packed_part b o) (flat_map (packed_part b) os) ∙ ap (λ n. n + length (flat_map (packed_part b) os)) (length_cleared (filter (stands_in b) (ordered o)) (part_bytes o (part_of b)))
    ∙ ap (λ n. length (part_bytes o (part_of b)) + n) (length_packed_parts b os) ∙ sym (length-append (part_bytes o (part_of b)) (parts b os))

-- ---- all fields, by place in the image

module _ (os : List Object) (all : AllByRecursion (IsIn os) os) where
  rooms : List Room
  rooms = rooms_of_objects os

  abbrev pub fields : List Kept
  fields = area false (λ k. base_at (rooms_of_objects os) k false) (enumerate_from 0 os) ++ area true (λ k. base_at (rooms_of_objects os) k true) (enumerate_from 0 os)

  follow_code : Follow false (λ k. base_at (rooms_of_objects os) k false) 0 0 os
  follow_code = follow false (λ n. n) (λ m n. refl) os all

  grouped : (a m n : ℕ) → a + (m + n) ≡ a + m + n
  grouped a m n = omega arith

  code_long : code_total (rooms_of_objects os) + 0 ≡ length (parts false os)
  code_long = omega (arith, length_parts os false os all)

  follow_init : Follow true (λ k. base_at (rooms_of_objects os) k true) 0 (length (parts false os)) os
  follow_init = subst (λ (n : ℕ). Follow true (λ k. base_at (rooms_of_objects os) k true) 0 n os) code_long
      (follow true (λ n. code_total (rooms_of_objects os) + n) (λ m n. grouped (code_total (rooms_of_objects os)) m n) os all)

  pub fields_rise : Rise 0 fields
  fields_rise =
      let code = area_rises os false (λ k. base_at (rooms_of_objects os) k false) 0 0 os follow_code all in
      rise_both 0 (length (parts false os)) (area false (λ k. base_at (rooms_of_objects os) k false) (enumerate_from 0 os)) (area true (λ k. base_at (rooms_of_objects os) k true) (enumerate_from 0 os))
      code.0 (all_so (λ (x : Kept). x.offset + kept_width x ≤ 0 + length (parts false os)) (λ (x : Kept). x.offset + kept_width x ≤ length (parts false os)) _ (λ x le. omega (arith, le)) code.1) (omega arith)
      (area_rises os true (λ k. base_at (rooms_of_objects os) k true) 0 (length (parts false os)) os follow_init all).0

  fit : (b : Bool) → AllByRecursion (Fit b) os
  fit b = all_so (IsIn os) (Fit b) os (λ o h. fits os b o h) all

  -- the packages' bytes
  pub packed_is : flat_map (packed_part false) os ++ flat_map (packed_part true) os ≡ cleared fields (plain_of_objects os)
  packed_is =
      let cs = enumerate_from 0 os in
      let p0 = flat_map (packed_part false) os in
      let code = area false (λ k. base_at (rooms_of_objects os) k false) cs in
      let init = area true (λ k. base_at (rooms_of_objects os) k true) cs in
      sym (cleared_both code init (parts false os ++ parts true os)
      ∙ ap (cleared init) (clear_area false (λ k. base_at (rooms_of_objects os) k false) 0 os [] (parts true os) follow_code (fit false))
      ∙ ap (λ ys. cleared init (p0 ++ ys)) (sym (append-nil (parts true os)))
      ∙ clear_area true (λ k. base_at (rooms_of_objects os) k true) 0 os p0 [] (subst (λ (n : ℕ). Follow true (λ k. base_at (rooms_of_objects os) k true) 0 n os) (sym (length_packed_parts false os)) follow_init) (fit true)
      ∙ ap (λ ys. p0 ++ ys) (append-nil (flat_map (packed_part true) os)))

  -- ---- what holds of all of them holds of all fields of the objects

  area_from_told : (Q : ℕ → RelocType → Type 0) (b : Bool) → AllByRecursion (λ t. Q t.0.place t.0.kind) (told_ordered os)
      → AllByRecursion (λ (x : Kept). Q x.offset x.kind) (area b (λ k. base_at (rooms_of_objects os) k b) (enumerate_from 0 os))
  area_from_told Q b told_all =
      let cs = enumerate_from 0 os in
      all_flat (λ (x : Kept). Q x.offset x.kind) (λ (c : ℕ × Object). map (moved (base_at (rooms_of_objects os) c.0 b)) (filter (stands_in b) (ordered c.1))) cs
      (all_so (λ (c : ℕ × Object). AllByRecursion (λ t. Q t.0.place t.0.kind) (map (told os c.0 c.1) (ordered c.1)))
      (λ (c : ℕ × Object). AllByRecursion (λ (x : Kept). Q x.offset x.kind) (map (moved (base_at (rooms_of_objects os) c.0 b)) (filter (stands_in b) (ordered c.1)))) cs
      (λ c here. all_map (λ (x : Kept). Q x.offset x.kind) (moved (base_at (rooms_of_objects os) c.0 b)) (filter (stands_in b) (ordered c.1))
      (all_filter (λ (x : Kept). Q (base_at (rooms_of_objects os) c.0 b + x.offset) x.kind) (stands_in b) (ordered c.1)
      (all_so (λ (x : Kept). Q (base_at (rooms_of_objects os) c.0 x.in_init + x.offset) x.kind) (λ (x : Kept). stands_in b x ≡ true → Q (base_at (rooms_of_objects os) c.0 b + x.offset) x.kind) (ordered c.1)
      (λ x q e. subst (λ (i : Bool). Q (base_at (rooms_of_objects os) c.0 i + x.offset) x.kind) (side b x e) q)
      (map_all (λ t. Q t.0.place t.0.kind) (told os c.0 c.1) (ordered c.1) here))))
      (flat_all (λ t. Q t.0.place t.0.kind) (λ (c : ℕ × Object). map (told os c.0 c.1) (ordered c.1)) cs told_all))

  pub fields_from_told : (Q : ℕ → RelocType → Type 0) → AllByRecursion (λ t. Q t.0.place t.0.kind) (told_ordered os) → AllByRecursion (λ (x : Kept). Q x.offset x.kind) fields
  fields_from_told Q told_all =
      all_joined (λ (x : Kept). Q x.offset x.kind) (area false (λ k. base_at (rooms_of_objects os) k false) (enumerate_from 0 os)) (area true (λ k. base_at (rooms_of_objects os) k true) (enumerate_from 0 os))
      (area_from_told Q false told_all) (area_from_told Q true told_all)

  passing : (Q : ℕ → RelocType → Type 0) (b : Bool) → AllByRecursion (λ (x : Kept). Q x.offset x.kind) (area b (λ k. base_at (rooms_of_objects os) k b) (enumerate_from 0 os))
      → AllByRecursion (λ (c : ℕ × Object). AllByRecursion (λ (x : Kept). stands_in b x ≡ true → Q (base_at (rooms_of_objects os) c.0 b + x.offset) x.kind) (ordered c.1)) (enumerate_from 0 os)
  passing Q b every =
      let cs = enumerate_from 0 os in
      all_so (λ (c : ℕ × Object). AllByRecursion (λ (x : Kept). Q x.offset x.kind) (map (moved (base_at (rooms_of_objects os) c.0 b)) (filter (stands_in b) (ordered c.1))))
      (λ (c : ℕ × Object). AllByRecursion (λ (x : Kept). stands_in b x ≡ true → Q (base_at (rooms_of_objects os) c.0 b + x.offset) x.kind) (ordered c.1)) cs
      (λ c here. all_passing (λ (x : Kept). Q (base_at (rooms_of_objects os) c.0 b + x.offset) x.kind) (stands_in b) (ordered c.1)
      (map_all (λ (x : Kept). Q x.offset x.kind) (moved (base_at (rooms_of_objects os) c.0 b)) (filter (stands_in b) (ordered c.1)) here))
      (flat_all (λ (x : Kept). Q x.offset x.kind) (λ (c : ℕ × Object). map (moved (base_at (rooms_of_objects os) c.0 b)) (filter (stands_in b) (ordered c.1))) cs every)

  pub told_from_fields : (Q : ℕ → RelocType → Type 0) → AllByRecursion (λ (x : Kept). Q x.offset x.kind) fields → AllByRecursion (λ t. Q t.0.place t.0.kind) (told_ordered os)
  told_from_fields Q every =
      let cs = enumerate_from 0 os in
      let code = area false (λ k. base_at (rooms_of_objects os) k false) cs in
      let init = area true (λ k. base_at (rooms_of_objects os) k true) cs in
      all_flat (λ t. Q t.0.place t.0.kind) (λ (c : ℕ × Object). map (told os c.0 c.1) (ordered c.1)) cs
      (all_with (λ (c : ℕ × Object). AllByRecursion (λ (x : Kept). stands_in false x ≡ true → Q (base_at (rooms_of_objects os) c.0 false + x.offset) x.kind) (ordered c.1))
      (λ (c : ℕ × Object). AllByRecursion (λ (x : Kept). stands_in true x ≡ true → Q (base_at (rooms_of_objects os) c.0 true + x.offset) x.kind) (ordered c.1))
      (λ (c : ℕ × Object). AllByRecursion (λ t. Q t.0.place t.0.kind) (map (told os c.0 c.1) (ordered c.1))) cs
      (λ c no yes. all_map (λ t. Q t.0.place t.0.kind) (told os c.0 c.1) (ordered c.1)
      (all_with (λ (x : Kept). stands_in false x ≡ true → Q (base_at (rooms_of_objects os) c.0 false + x.offset) x.kind)
      (λ (x : Kept). stands_in true x ≡ true → Q (base_at (rooms_of_objects os) c.0 true + x.offset) x.kind)
      (λ (x : Kept). Q (base_at (rooms_of_objects os) c.0 x.in_init + x.offset) x.kind) (ordered c.1)
      (λ x f t. choose x.in_init (λ (i : Bool). Q (base_at (rooms_of_objects os) c.0 i + x.offset) x.kind) (λ e. f (other_side false x e)) (λ e. t (other_side true x e))) no yes))
      (passing Q false (all_front (λ (x : Kept). Q x.offset x.kind) code init every)) (passing Q true (all_back (λ (x : Kept). Q x.offset x.kind) code init every)))
    where
      choose : (i : Bool) (P : Bool → Type 0) → (i ≡ false → P false) → (i ≡ true → P true) → P i
      choose true P f t = t refl
      choose false P f t = f refl
