-- A part of an image whose value bits are cleared is the package's part.
use Rattle.std.proofs.Common.{◌≡◌, inl, inr, ℕ, ◌+◌, ◌-◌, ◌<◌, Bool, true, false, List, [], ◌∷◌, length, get_or, refl, sym, ap, ◌∙◌, arith, slice_range}
use Rattle.std.specs.Prelude.{◌&&◌, nat_le, nat_lt, bit_and}
use Rattle.std.specs.List.{list_any, AllByRecursion}
use Rattle.std.proofs.lemmas.Bool.{cases_Bool, and_parts, leb-true, ltb-true}
use Rattle.std.proofs.lemmas.List.FromFn.{get_or-map-range_with_len}
use Rattle.std.proofs.lemmas.Grind.{same_number_lists}
use Rattle.avr_reloc.specs.Kind.{shape_of}
use Rattle.avr_reloc.specs.Field.{AreBytes, keep_of, masked}
use Rattle.avr_reloc.proofs.Tables.{same_below}
use Rattle.avr_reloc.proofs.Patched.{get_or-masked}
use Rattle.avr_reloc.proofs.Fixups.{get_or-slice}
use Rattle.component_package.specs.declared.part.Reloc.{Reloc}
use Rattle.component_package.specs.packages.Reading.{reloc_end}
use Rattle.kept_definitions.specs.Runs.{is_in_part, has_field_at, bits_kept, cleared}
use Rattle.component_package.proofs.Lists.{length-list_of}

-- all bits of a byte
all_bits : (b : ℕ) → b < 256 → bit_and b 255 ≡ b
all_bits b lt = same_below (λ b. bit_and b 255) (λ b. b) 256 refl b lt

-- a relocation of this part, whose field gives the plain bytes back when its value bits are cleared
abbrev pub FieldBack : Bool → List ℕ → List ℕ → Reloc → Type 0
FieldBack init part plain r =
    is_in_part init r ≡ true → masked (slice_range part r.offset (reloc_end r)) (keep_of (shape_of r.kind)) ≡ slice_range plain r.offset (reloc_end r)

-- byte `at` of a field that gives the plain bytes back
in_field : (init : Bool) (part plain : List ℕ) (at : ℕ) (r : Reloc) → FieldBack init part plain r → has_field_at init at r ≡ true
    → bit_and (get_or part at 0) (get_or (keep_of (shape_of r.kind)) (at - r.offset) 0) ≡ get_or plain at 0
in_field init part plain at r back here =
    let both = and_parts (is_in_part init r) (nat_le r.offset at && nat_lt at (reloc_end r)) here in
    let place = and_parts (nat_le r.offset at) (nat_lt at (reloc_end r)) both.1 in
    let low = leb-true r.offset at place.0 in
    let high = ltb-true at (reloc_end r) place.1 in
    let behind : r.offset + (at - r.offset) ≡ at = omega (arith, low) in
    let inside : r.offset + (at - r.offset) < reloc_end r = omega (arith, low, high) in
    let left = get_or-slice part r.offset (reloc_end r) (at - r.offset) inside in
    let right = get_or-slice plain r.offset (reloc_end r) (at - r.offset) inside in
    let byte = ap (λ (l : List ℕ). get_or l (at - r.offset) 0) (back both.0) in
    ap (λ (b : ℕ). bit_and b (get_or (keep_of (shape_of r.kind)) (at - r.offset) 0)) (ap (λ (k : ℕ). get_or part k 0) (sym behind) ∙ sym left)
    ∙ sym (get_or-masked (slice_range part r.offset (reloc_end r)) (keep_of (shape_of r.kind)) (at - r.offset))
    ∙ byte ∙ right ∙ ap (λ (k : ℕ). get_or plain k 0) behind

-- so with many fields, where a byte in none of them is plain
byte_back : (init : Bool) (part plain : List ℕ) (at : ℕ) → AreBytes part → (rs : List Reloc) → AllByRecursion (FieldBack init part plain) rs
    → (list_any (has_field_at init at) rs ≡ false → get_or part at 0 ≡ get_or plain at 0)
    → bit_and (get_or part at 0) (bits_kept init rs at) ≡ get_or plain at 0
byte_back init part plain at bytes [] all free = all_bits (get_or part at 0) (bytes at) ∙ free refl
byte_back init part plain at bytes (r ∷ rs) all free =
    elim (cases_Bool (has_field_at init at r)) [
      | inl e ↦ rw e (in_field init part plain at r all.0 e)
      | inr e ↦ rw e (byte_back init part plain at bytes rs all.1 (rw e at free))
    ]

-- the part, cleared, is plain
pub part_back : (init : Bool) (part plain : List ℕ) (rs : List Reloc) → length part ≡ length plain → AreBytes part → AllByRecursion (FieldBack init part plain) rs
    → ((at : ℕ) → at < length plain → list_any (has_field_at init at) rs ≡ false → get_or part at 0 ≡ get_or plain at 0)
    → cleared init rs part ≡ plain
part_back init part plain rs same bytes all free =
    let f : ℕ → ℕ = λ at. bit_and (get_or part at 0) (bits_kept init rs at) in
    let size : length (cleared init rs part) ≡ length plain = length-list_of f (length part) ∙ same in
    same_number_lists (cleared init rs part) plain size
    (λ k lt. get_or-map-range_with_len f 0 (length part) k k 0 (omega (arith, lt, size, same)) (omega arith)
    ∙ byte_back init part plain k bytes rs all (free k (omega (arith, lt, size))))
