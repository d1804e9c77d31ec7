-- The packages' bytes are the objects' bytes with the fields cleared.
use Rattle.std.proofs.Common.{◌≡◌, ℕ, ◌+◌, ◌-◌, ◌<◌, ◌≤◌, Bool, true, false, cond, List, [], ◌∷◌, ◌++◌, length, get_or, map, take, refl, sym, ap, subst, ◌∙◌, inl, inr, arith, bit_and, append_assoc, length-append, if◌then◌else◌}
use Rattle.std.specs.List.{filter, flat_map, enumerate_from, sum_by, AllByRecursion}
use Rattle.std.proofs.lemmas.Bool.{cases_lt}
use Rattle.std.proofs.lemmas.Bool.Decides.{nat_tests}
use Rattle.std.proofs.lemmas.Grind.{same_number_lists}
use Rattle.std.proofs.lemmas.List.{map-append}
use Rattle.std.proofs.lemmas.List.FromFn.{get_or-map-range_with_len}
use Rattle.std.proofs.lemmas.List.Sums.{sum_by-append, sum_by-cons}
use Rattle.std.proofs.Math.ListN.{get_or-append}
use Rattle.std.proofs.Math.Seq.{get_or-append_right}
use Rattle.avr_reloc.specs.Kind.{shape_of}
use Rattle.avr_reloc.specs.Field.{keep_of}
use Rattle.avr_elf.specs.Object.{Object}
use Rattle.component_package.specs.declared.part.Place.TheVariants as places
use Rattle.component_package.specs.link.Layout.{Room}
use Rattle.object_packer.specs.Parts.{part_length, part_bytes}
use Rattle.object_packer.specs.Relocations.{ordered, kept_width}
use Rattle.object_packer.specs.Packed.{kept_covers, clear_byte, clear_field, cleared, stands_in, part_of}
use Rattle.object_packer.proofs.Clearing.{length_clear, length_cleared}
use Rattle.object_packer.proofs.Sound.{length_part}
use Rattle.name_laws.specs.NameImage.{rooms_of_objects}
use Rattle.name_laws.proofs.Types.{Kept}
use Rattle.name_laws.proofs.Defined.{IsIn}
use Rattle.name_laws.proofs.Packed.{packed_part}

-- ---- fields of a longer list

-- a field that begins so much later
abbrev pub moved : ℕ → Kept → Kept
moved d x =
    record {
      section = x.section;
      entry = x.entry;
      in_init = x.in_init;
      offset = d + x.offset;
      position = x.position;
      kind = x.kind;
      symbol = x.symbol;
      target = x.target;
      weak = x.weak;
      addend = x.addend;
    }

-- a byte of bytes with a field cleared
byte_at : (x : Kept) (bytes : List ℕ) (at : ℕ) → at < length bytes → get_or (clear_field x bytes) at 0 ≡ clear_byte x bytes at
byte_at x bytes at lt = get_or-map-range_with_len (clear_byte x bytes) 0 (length bytes) at at 0 lt (omega arith)

uncovered : (x : Kept) (bytes : List ℕ) (at : ℕ) → kept_covers at x ≡ false → clear_byte x bytes at ≡ get_or bytes at 0
uncovered x bytes at e = ap (λ b. cond b (bit_and (get_or bytes at 0) (get_or (keep_of (shape_of x.kind)) (at - x.offset) 0)) (get_or bytes at 0)) e

covered : (x : Kept) (bytes : List ℕ) (at : ℕ) → kept_covers at x ≡ true → clear_byte x bytes at ≡ bit_and (get_or bytes at 0) (get_or (keep_of (shape_of x.kind)) (at - x.offset) 0)
covered x bytes at e = ap (λ b. cond b (bit_and (get_or bytes at 0) (get_or (keep_of (shape_of x.kind)) (at - x.offset) 0)) (get_or bytes at 0)) e

-- clearing a field of a part of a list
clear_moved : (a q c : List ℕ) (x : Kept) → x.offset + kept_width x ≤ length q → clear_field (moved (length a) x) (a ++ (q ++ c)) ≡ a ++ (clear_field x q ++ c)
clear_moved a q c x inside = same_number_lists (clear_field y whole) (a ++ (clear_field x q ++ c)) (length_clear y whole ∙ long)
    (λ at lt. let low : at < length whole = subst (λ (n : ℕ). at < n) (length_clear y whole) lt in byte_at y whole at low ∙ each at low)
  where
    y : Kept
    y = moved (length a) x

    whole : List ℕ
    whole = a ++ (q ++ c)

    long : length whole ≡ length (a ++ (clear_field x q ++ c))
    long =
        length-append a (q ++ c) ∙ ap (λ n. length a + n) (length-append q c ∙ ap (λ n. n + length c) (sym (length_clear x q)) ∙ sym (length-append (clear_field x q) c))
        ∙ sym (length-append a (clear_field x q ++ c))

    behind : (at : ℕ) → length a ≤ at → get_or whole at 0 ≡ get_or (q ++ c) (at - length a) 0
    behind at le = get_or-append_right a (q ++ c) at 0 le

    behind_new : (at : ℕ) → length a ≤ at → get_or (a ++ (clear_field x q ++ c)) at 0 ≡ get_or (clear_field x q ++ c) (at - length a) 0
    behind_new at le = get_or-append_right a (clear_field x q ++ c) at 0 le

    each : (at : ℕ) → at < length whole → clear_byte y whole at ≡ get_or (a ++ (clear_field x q ++ c)) at 0
    each at low =
        elim (cases_lt at (length a)) [
          | inl lt ↦ let out : kept_covers at y ≡ false = grind (arith, nat_tests) in
              uncovered y whole at out ∙ get_or-append a (q ++ c) 0 at lt ∙ sym (get_or-append a (clear_field x q ++ c) 0 at lt)
          | inr le ↦
              elim (cases_lt (at - length a) (length q)) [
                | inl inner ↦
                    let same : kept_covers at y ≡ kept_covers (at - length a) x = grind (arith, nat_tests) in
                    let back : at - (length a + x.offset) ≡ at - length a - x.offset = omega arith in
                    let here : get_or whole at 0 ≡ get_or q (at - length a) 0 = behind at le ∙ get_or-append q c 0 (at - length a) inner in
                    ap (λ v. cond (kept_covers at y) (bit_and v (get_or (keep_of (shape_of x.kind)) (at - (length a + x.offset)) 0)) v) here
                    ∙ ap (λ b. cond b (bit_and (get_or q (at - length a) 0) (get_or (keep_of (shape_of x.kind)) (at - (length a + x.offset)) 0)) (get_or q (at - length a) 0)) same
                    ∙ ap (λ n. cond (kept_covers (at - length a) x) (bit_and (get_or q (at - length a) 0) (get_or (keep_of (shape_of x.kind)) n 0)) (get_or q (at - length a) 0)) back
                    ∙ sym (byte_at x q (at - length a) inner) ∙ sym (get_or-append (clear_field x q) c 0 (at - length a) (subst (λ (n : ℕ). at - length a < n) (sym (length_clear x q)) inner))
                    ∙ sym (behind_new at le)
                | inr past ↦
                    let out : kept_covers at y ≡ false = (let i = inside in grind (arith, nat_tests)) in
                    uncovered y whole at out ∙ behind at le ∙ get_or-append_right q c (at - length a) 0 past
                    ∙ ap (λ n. get_or c (at - length a - n) 0) (sym (length_clear x q))
                    ∙ sym (get_or-append_right (clear_field x q) c (at - length a) 0 (subst (λ (n : ℕ). n ≤ at - length a) (sym (length_clear x q)) past)) ∙ sym (behind_new at le)
              ]
        ]

all_moved : (a c : List ℕ) (xs : List Kept) (q : List ℕ) → AllByRecursion (λ x. x.offset + kept_width x ≤ length q) xs → cleared (map (moved (length a)) xs) (a ++ (q ++ c)) ≡ a ++ (cleared xs q ++ c)
all_moved a c [] q all = refl
all_moved a c (x ∷ xs) q all =
    ap (cleared (map (moved (length a)) xs)) (clear_moved a q c x all.0)
    ∙ all_moved a c xs (clear_field x q) (subst (λ (n : ℕ). AllByRecursion (λ (y : Kept). y.offset + kept_width y ≤ n) xs) (sym (length_clear x q)) all.1)

pub cleared_both : (xs ys : List Kept) (bytes : List ℕ) → cleared (xs ++ ys) bytes ≡ cleared ys (cleared xs bytes)
cleared_both [] ys bytes = refl
cleared_both (x ∷ xs) ys bytes = cleared_both xs ys (clear_field x bytes)

-- ---- all code, or all data

-- the fields of one part of all objects, where `at` says where the part of object k begins
abbrev pub area : Bool → (ℕ → ℕ) → List (ℕ × Object) → List Kept
area b at cs = flat_map (λ c. map (moved (at c.0)) (filter (stands_in b) (ordered c.1))) cs

-- the bytes of one part of all objects
abbrev pub parts : Bool → List Object → List ℕ
parts b os = flat_map (λ o. part_bytes o (part_of b)) os

-- the part of each object begins behind that of the former one
abbrev pub Follow : Bool → (ℕ → ℕ) → ℕ → ℕ → List Object → Type 0
Follow b at n low [] = Unit {0}
Follow b at n low (o ∷ os) = (at n ≡ low) × Follow b at (n + 1) (low + length (part_bytes o (part_of b))) os

-- the fields of a part of an object are within it
abbrev pub Fit : Bool → Object → Type 0
Fit b o = AllByRecursion (λ x. x.offset + kept_width x ≤ length (part_bytes o (part_of b))) (filter (stands_in b) (ordered o))

pub clear_area : (b : Bool) (at : ℕ → ℕ) (n : ℕ) (os : List Object) (a c : List ℕ) → Follow b at n (length a) os → AllByRecursion (Fit b) os
    → cleared (area b at (enumerate_from n os)) (a ++ (parts b os ++ c)) ≡ a ++ (flat_map (packed_part b) os ++ c)
clear_area b at n [] a c follow fit = refl
clear_area b at n (o ∷ os) a c follow fit =
    let xs = filter (stands_in b) (ordered o) in
    let q = part_bytes o (part_of b) in
    let rest = area b at (enumerate_from (n + 1) os) in
    let p = packed_part b o in
    let more = flat_map (packed_part b) os in
    let longer : length a + length q ≡ length (a ++ p) = sym (length-append a p ∙ ap (λ n. length a + n) (length_cleared xs q)) in
    ap (λ ys. cleared (map (moved (at n)) xs ++ rest) (a ++ ys)) (append_assoc q (parts b os) c)
    ∙ cleared_both (map (moved (at n)) xs) rest (a ++ (q ++ (parts b os ++ c)))
    ∙ ap (λ d. cleared rest (cleared (map (moved d) xs) (a ++ (q ++ (parts b os ++ c))))) follow.0
    ∙ ap (cleared rest) (all_moved a (parts b os ++ c) xs q fit.0 ∙ sym (append_assoc a p (parts b os ++ c)))
    ∙ clear_area b at (n + 1) os (a ++ p) c (subst (λ (m : ℕ). Follow b at (n + 1) m os) longer follow.1) fit.1
    ∙ append_assoc a p (more ++ c) ∙ ap (λ ys. a ++ ys) (sym (append_assoc p more c))

-- ---- where parts begin

abbrev pub size_in : Bool → Room → ℕ
size_in b r = if b then r.init else r.code

abbrev pub room_in : Object → Room
room_in o = record { code = part_length o places.Code; init = part_length o places.Init; bss = part_length o places.Bss }

pub size_is : (b : Bool) (o : Object) → size_in b (room_in o) ≡ part_length o (part_of b)
size_is true o = refl
size_is false o = refl

take_rooms : (front rest : List Object) → take (length front) (rooms_of_objects (front ++ rest)) ≡ rooms_of_objects front
take_rooms [] rest = refl
take_rooms (o ∷ front) rest = ap (λ rs. room_in o ∷ rs) (take_rooms front rest)

regroup : (front os : List Object) (o : Object) → (front ++ o ∷ []) ++ os ≡ front ++ o ∷ os
regroup front os o = append_assoc front (o ∷ []) os

follow_from : (b : Bool) (g : ℕ → ℕ) → ((m n : ℕ) → g (m + n) ≡ g m + n) → (os front rest : List Object) → front ++ rest ≡ os → AllByRecursion (IsIn os) rest
    → Follow b (λ k. g (sum_by (size_in b) (take k (rooms_of_objects os)))) (length front) (g (sum_by (size_in b) (rooms_of_objects front))) rest
follow_from b g add os front [] whole all = tt
follow_from b g add os front (o ∷ rest) whole all =
    let room : Room = room_in o in
    let here : take (length front) (rooms_of_objects os) ≡ rooms_of_objects front = ap (λ (xs : List Object). take (length front) (rooms_of_objects xs)) (sym whole) ∙ take_rooms front (o ∷ rest) in
    let size : size_in b room ≡ length (part_bytes o (part_of b)) = size_is b o ∙ sym (length_part o all.0.sound b) in
    let longer : length (front ++ o ∷ []) ≡ length front + 1 = length-append front (o ∷ []) in
    let total : sum_by (size_in b) (rooms_of_objects (front ++ o ∷ [])) ≡ sum_by (size_in b) (rooms_of_objects front) + length (part_bytes o (part_of b)) =
    ap (sum_by (size_in b)) (map-append room_in front (o ∷ []))
    ∙ sum_by-append (size_in b) (rooms_of_objects front) (room ∷ []) ∙ ap (λ n. sum_by (size_in b) (rooms_of_objects front) + n) (sum_by-cons (size_in b) room [] ∙ lone (size_in b room) ∙ size) in
    let rest_follows = follow_from b g add os (front ++ o ∷ []) rest (regroup front rest o ∙ whole) all.1 in (
      ap (λ rs. g (sum_by (size_in b) rs)) here,
      subst (λ (n : ℕ). Follow b (λ k. g (sum_by (size_in b) (take k (rooms_of_objects os)))) n (g (sum_by (size_in b) (rooms_of_objects front)) + length (part_bytes o (part_of b))) rest) longer
          (subst (λ (m : ℕ). Follow b (λ k. g (sum_by (size_in b) (take k (rooms_of_objects os)))) (length (front ++ o ∷ [])) m rest)
          (ap g total ∙ add (sum_by (size_in b) (rooms_of_objects front)) (length (part_bytes o (part_of b)))) rest_follows),
    )
  where
    lone : (n : ℕ) → n + 0 ≡ n
    lone n = omega arith

pub follow : (b : Bool) (g : ℕ → ℕ) → ((m n : ℕ) → g (m + n) ≡ g m + n) → (os : List Object) → AllByRecursion (IsIn os) os
    → Follow b (λ k. g (sum_by (size_in b) (take k (rooms_of_objects os)))) 0 (g 0) os
follow b g add os all = follow_from b g add os [] os refl all
