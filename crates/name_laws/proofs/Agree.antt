-- Bytes with fields cleared agree with the bytes before outside the fields' value bits.
use Rattle.std.proofs.Common.{◌≡◌, ℕ, ◌+◌, ◌-◌, ◌<◌, ◌≤◌, Bool, true, false, cond, Option, Some, None, List, [], ◌∷◌, ◌++◌, length, get_or, map, refl, sym, ap, subst, ◌∙◌, inl, inr, arith, bit_and, ltb, if◌then◌else◌}
use Rattle.std.specs.Prelude.{not}
use Rattle.std.specs.List.{filter, list_any, AllByRecursion}
use Rattle.std.proofs.lemmas.Bool.{cases_Bool, cases_lt, ltb-false, or_parts}
use Rattle.std.proofs.lemmas.Bool.Decides.{nat_tests}
use lib.Bits.{and_self}
use Rattle.std.proofs.lemmas.Nat.{and_assoc}
use Rattle.std.proofs.lemmas.List.{get_or_past}
use Rattle.std.proofs.lemmas.List.FromFn.{get_or-map-range_with_len}
use Rattle.avr_reloc.specs.Kind.{shape_of}
use Rattle.avr_reloc.specs.Field.{keep_of}
use Rattle.avr_elf.specs.Object.{Object}
use Rattle.component_package.specs.declared.part.Place.TheVariants as places
use Rattle.object_packer.specs.Parts.{part_length}
use Rattle.object_packer.specs.Relocations.{kept_width}
use Rattle.object_packer.specs.Faults.{overlap_fault}
use Rattle.object_packer.specs.Packed.{kept_covers, clear_byte, clear_field, cleared, stands_in}
use Rattle.object_packer.proofs.Clearing.{length_clear, length_cleared}
use Rattle.object_packer.proofs.Sound.{IsKept}
use Rattle.name_laws.proofs.Types.{Kept}
use Rattle.name_laws.proofs.Lists.{all_so}
use Rattle.name_laws.proofs.Bytes.{moved}

-- no field begins before `low` or before the former one's end
abbrev pub Rise : ℕ → List Kept → Type 0
Rise low [] = Unit {0}
Rise low (x ∷ xs) = (low ≤ x.offset) × Rise (x.offset + kept_width x) xs

pub lower : (low high : ℕ) (xs : List Kept) → low ≤ high → Rise high xs → Rise low xs
lower low high [] le rise = tt
lower low high (x ∷ xs) le rise = (omega (arith, le, rise.0), rise.1)

pub rise_both : (low mid : ℕ) (xs ys : List Kept) → Rise low xs → AllByRecursion (λ x. x.offset + kept_width x ≤ mid) xs → low ≤ mid → Rise mid ys → Rise low (xs ++ ys)
rise_both low mid [] ys rise ends le after = lower low mid ys le after
rise_both low mid (x ∷ xs) ys rise ends le after = (rise.0, rise_both (x.offset + kept_width x) mid xs ys rise.1 ends.1 ends.0 after)

behind : {X : Type 0} (c : Bool) (f : X) (rest : Option X) → cond c (Some f) rest ≡ None → (c ≡ false) × (rest ≡ None)
behind true f rest e = absurd cc
behind false f rest e = (refl, e)

-- the fields of one part of an object rise
pub rise_part : (o : Object) (b : Bool) (d low from_low : ℕ) (xs : List Kept) → AllByRecursion (IsKept o) xs
    → ((m : ℕ) → low ≤ (if b then part_length o places.Code else 0) + m → from_low ≤ d + m) → overlap_fault low xs ≡ None
    → Rise from_low (map (moved d) (filter (stands_in b) xs))
rise_part o b d low from_low [] all over none = tt
rise_part o b d low from_low (x ∷ xs) all over none = from (ltb x.position low) refl (behind (ltb x.position low) _ _ none) (stands_in b x) refl
    (λ le rest. rise_part o b d (x.position + kept_width x) from_low xs all.1 (λ m h. over m (omega (arith, le, h))) rest)
    (λ at rest. rise_part o b d (x.position + kept_width x) (d + x.offset + kept_width x) xs all.1 (λ m h. omega (arith, at, h)) rest)
  where
    off : (q : Bool) → not q ≡ true → q ≡ false
    off true e = absurd cc
    off false e = refl

    side : (b : Bool) → stands_in b x ≡ true → x.in_init ≡ b
    side true e = e
    side false e = off x.in_init e

    from : (c : Bool) → ltb x.position low ≡ c → (c ≡ false) × (overlap_fault (x.position + kept_width x) xs ≡ None) → (s : Bool) → stands_in b x ≡ s
        → (low ≤ x.position → overlap_fault (x.position + kept_width x) xs ≡ None → Rise from_low (map (moved d) (filter (stands_in b) xs)))
        → (x.position ≡ (if b then part_length o places.Code else 0) + x.offset → overlap_fault (x.position + kept_width x) xs ≡ None → Rise (d + x.offset + kept_width x) (map (moved d) (filter (stands_in b) xs)))
        → Rise from_low (map (moved d) (cond s (x ∷ filter (stands_in b) xs) (filter (stands_in b) xs)))
    from true p parts s q skip go = absurd (let u = parts.0 in cc)
    from false p parts false q skip go = skip (ltb-false x.position low p) parts.1
    from false p parts true q skip go =
        let at : x.position ≡ (if b then part_length o places.Code else 0) + x.offset = subst (λ (c : Bool). x.position ≡ (if c then part_length o places.Code else 0) + x.offset) (side b q) all.0.position in
        (over x.offset (omega (arith, at, ltb-false x.position low p)), go at parts.1)

-- ---- bytes

-- where w stands in place of v at a place
pub record Agrees (xs : List Kept) (at w v : ℕ) : Type 0 where
  pub outside : list_any (kept_covers at) xs ≡ false → w ≡ v
  pub inside : AllByRecursion (λ (x : Kept). kept_covers at x ≡ true → bit_and w (get_or (keep_of (shape_of x.kind)) (at - x.offset) 0) ≡ bit_and v (get_or (keep_of (shape_of x.kind)) (at - x.offset) 0)) xs

same_value : (xs : List Kept) (at w v : ℕ) → w ≡ v → Agrees xs at w v
same_value xs at w v e = record { outside = λ none. e; inside = each xs }
  where
    each : (ys : List Kept) → AllByRecursion (λ (x : Kept). kept_covers at x ≡ true → bit_and w (get_or (keep_of (shape_of x.kind)) (at - x.offset) 0) ≡ bit_and v (get_or (keep_of (shape_of x.kind)) (at - x.offset) 0)) ys
    each [] = tt
    each (y ∷ ys) = (λ c. ap (λ n. bit_and n (get_or (keep_of (shape_of y.kind)) (at - y.offset) 0)) e, each ys)

none_covers : (low at : ℕ) (xs : List Kept) → at < low → Rise low xs → AllByRecursion (λ x. kept_covers at x ≡ false) xs
none_covers low at [] lt rise = tt
none_covers low at (x ∷ xs) lt rise =
    (let r = rise.0 in grind (arith, nat_tests), none_covers (x.offset + kept_width x) at xs (let r = rise.0 in omega (arith, lt, r)) rise.1)

any_none : (at : ℕ) (xs : List Kept) → AllByRecursion (λ x. kept_covers at x ≡ false) xs → list_any (kept_covers at) xs ≡ false
any_none at [] all = refl
any_none at (x ∷ xs) all = rw all.0 (any_none at xs all.1)

vacuous : (P : Kept → Type 0) (at : ℕ) (xs : List Kept) → AllByRecursion (λ x. kept_covers at x ≡ false) xs → AllByRecursion (λ x. kept_covers at x ≡ true → P x) xs
vacuous P at xs all = all_so (λ x. kept_covers at x ≡ false) (λ x. kept_covers at x ≡ true → P x) xs (λ x no t. absurd (let u : false ≡ true = sym no ∙ t in cc)) all

-- bits that are kept twice are kept
kept_twice : (v k : ℕ) → bit_and (bit_and v k) k ≡ bit_and v k
kept_twice v k = and_assoc k v k ∙ ap (bit_and v) (and_self k)

covered_below : (x : Kept) (at : ℕ) → kept_covers at x ≡ true → at < x.offset + kept_width x
covered_below x at e = grind (arith, nat_tests)

within : (low : ℕ) (xs : List Kept) (bytes : List ℕ) (at : ℕ) → Rise low xs → at < length bytes → Agrees xs at (get_or (cleared xs bytes) at 0) (get_or bytes at 0)
within low [] bytes at rise lt = same_value [] at (get_or bytes at 0) (get_or bytes at 0) refl
within low (x ∷ xs) bytes at rise lt =
    let now = clear_field x bytes in
    let here : get_or now at 0 ≡ clear_byte x bytes at = get_or-map-range_with_len (clear_byte x bytes) 0 (length bytes) at at 0 lt (omega arith) in
    let rest = within (x.offset + kept_width x) xs now at rise.1 (subst (λ (n : ℕ). at < n) (sym (length_clear x bytes)) lt) in
    let k = get_or (keep_of (shape_of x.kind)) (at - x.offset) 0 in
    let v = get_or bytes at 0 in
    elim (cases_Bool (kept_covers at x)) [
      | inl hit ↦
          let none = none_covers (x.offset + kept_width x) at xs (covered_below x at hit) rise.1 in
          let last : get_or (cleared xs now) at 0 ≡ bit_and v k = rest.outside (any_none at xs none) ∙ here ∙ ap (λ b. cond b (bit_and v k) v) hit in
          record {
            outside = λ no. absurd (let u = (or_parts (kept_covers at x) (list_any (kept_covers at) xs) no).0 in let w : false ≡ true = sym u ∙ hit in cc);
            inside = (
              λ t. ap (λ n. bit_and n k) last ∙ kept_twice v k,
              vacuous (λ (y : Kept). bit_and (get_or (cleared xs now) at 0) (get_or (keep_of (shape_of y.kind)) (at - y.offset) 0) ≡ bit_and v (get_or (keep_of (shape_of y.kind)) (at - y.offset) 0)) at xs none,
            );
          }
      | inr miss ↦
          let same : get_or now at 0 ≡ v = here ∙ ap (λ b. cond b (bit_and v k) v) miss in
          let before : Agrees xs at (get_or (cleared xs now) at 0) v = subst (λ (n : ℕ). Agrees xs at (get_or (cleared xs now) at 0) n) same rest in
          record {
            outside = λ no. before.outside (or_parts (kept_covers at x) (list_any (kept_covers at) xs) no).1;
            inside = (λ t. absurd (let u : false ≡ true = sym miss ∙ t in cc), before.inside);
          }
    ]

-- at every place
pub agree : (low : ℕ) (xs : List Kept) (bytes : List ℕ) (at : ℕ) → Rise low xs → Agrees xs at (get_or (cleared xs bytes) at 0) (get_or bytes at 0)
agree low xs bytes at rise =
    elim (cases_lt at (length bytes)) [
      | inl lt ↦ within low xs bytes at rise lt
      | inr le ↦ same_value xs at (get_or (cleared xs bytes) at 0) (get_or bytes at 0)
          (get_or_past (cleared xs bytes) at 0 (subst (λ (n : ℕ). n ≤ at) (sym (length_cleared xs bytes)) le) ∙ sym (get_or_past bytes at 0 le))
    ]
