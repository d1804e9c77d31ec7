-- The code and the data of a package made from a file of bytes are bytes.
use Rattle.std.proofs.Common.{ℕ, zero, suc, ◌+◌, ◌-◌, ◌%◌, ◌<◌, Bool, true, false, cond, List, [], ◌∷◌, ◌++◌, length, map, replicate, slice_index, slice_range, bit_and, arith}
use Rattle.std.specs.List.{filter, flat_map, range_with_len, AllByRecursion}
use Rattle.std.proofs.lemmas.Nat.{and_le_l}
use Rattle.avr_reloc.specs.Kind.{shape_of}
use Rattle.avr_reloc.specs.Field.{AreBytes, keep_of}
use Rattle.avr_reloc.proofs.Fixups.{AreBytes-slice}
use Rattle.avr_elf.specs.declared.header.SectionHeader.{SectionHeader}
use Rattle.avr_elf.specs.Header.{section_count, header_of}
use Rattle.avr_elf.specs.Section.{has_bytes}
use Rattle.avr_elf.specs.Object.{SectionParts, section_of, object_of}
use Rattle.component_package.specs.declared.part.Place.{Place}
use Rattle.component_package.specs.declared.part.Place.TheVariants as places
use Rattle.object_packer.specs.Parts.{is_in, filled, bytes_in, part_bytes}
use Rattle.object_packer.specs.Relocations.{ordered}
use Rattle.object_packer.specs.Packed.{kept_covers, clear_byte, clear_field, cleared, stands_in, packed_code, packed_init}
use Rattle.name_laws.proofs.Types.{Kept}

bytes_joined : (xs ys : List ℕ) → AreBytes xs → AreBytes ys → AreBytes (xs ++ ys)
bytes_joined [] ys p q i = q i
bytes_joined (x ∷ xs) ys p q zero = p 0
bytes_joined (x ∷ xs) ys p q (suc i) = bytes_joined xs ys (λ j. p (suc j)) q i

zeros : (n : ℕ) → AreBytes (replicate {A = ℕ} n 0)
zeros zero i = omega arith
zeros (suc n) zero = omega arith
zeros (suc n) (suc i) = zeros n i

bytes_flat : {X : Type 0} (f : X → List ℕ) (xs : List X) → AllByRecursion (λ x. AreBytes (f x)) xs → AreBytes (flat_map f xs)
bytes_flat f [] all i = omega arith
bytes_flat f (x ∷ xs) all i = bytes_joined (f x) (flat_map f xs) all.0 (bytes_flat f xs all.1) i

bytes_mapped : (f : ℕ → ℕ) → ((i : ℕ) → f i < 256) → (is : List ℕ) → AreBytes (map f is)
bytes_mapped f each [] i = omega arith
bytes_mapped f each (j ∷ is) zero = each j
bytes_mapped f each (j ∷ is) (suc i) = bytes_mapped f each is i

-- ---- parts

module _ (file : List ℕ) (bytes : AreBytes file) where
  section_bytes : (i : ℕ) → AreBytes (section_of file i).bytes
  section_bytes i = from (has_bytes (header_of file i))
    where
      h : SectionHeader
      h = header_of file i

      from : (b : Bool) → AreBytes (cond b (slice_range file h.offset (h.offset + h.size)) [])
      from true = AreBytes-slice file h.offset (h.offset + h.size) bytes
      from false = λ i. omega arith

  filled_bytes : (p : Place) (s : SectionParts) → AreBytes s.bytes → AreBytes (bytes_in p s)
  filled_bytes p s are = from (is_in p s)
    where
      from : (b : Bool) → AreBytes (cond b (filled s.bytes) [])
      from true = bytes_joined s.bytes (replicate (length s.bytes % 2) 0) are (zeros (length s.bytes % 2))
      from false = λ i. omega arith

  all_sections : (p : Place) (is : List ℕ) → AllByRecursion (λ s. AreBytes (bytes_in p s)) (map (section_of file) is)
  all_sections p [] = tt
  all_sections p (i ∷ is) = (filled_bytes p (section_of file i) (section_bytes i), all_sections p is)

  pub parts_are_bytes : (p : Place) → AreBytes (part_bytes (object_of file) p)
  parts_are_bytes p = bytes_flat (bytes_in p) (map (section_of file) (range_with_len 0 (section_count file))) (all_sections p (range_with_len 0 (section_count file)))

-- ---- without value bits

clear_bytes : (x : Kept) (bytes : List ℕ) → AreBytes bytes → AreBytes (clear_field x bytes)
clear_bytes x bytes are = bytes_mapped (clear_byte x bytes) each (range_with_len 0 (length bytes))
  where
    from : (at m : ℕ) (b : Bool) → cond b (bit_and (slice_index bytes at) m) (slice_index bytes at) < 256
    from at m true = let le = and_le_l (slice_index bytes at) m in let small = are at in omega (arith, le, small)
    from at m false = are at

    each : (at : ℕ) → clear_byte x bytes at < 256
    each at = from at (slice_index (keep_of (shape_of x.kind)) (at - x.offset)) (kept_covers at x)

all_cleared : (xs : List Kept) (bytes : List ℕ) → AreBytes bytes → AreBytes (cleared xs bytes)
all_cleared [] bytes are = are
all_cleared (x ∷ xs) bytes are = all_cleared xs (clear_field x bytes) (clear_bytes x bytes are)

pub code_is_bytes : (file : List ℕ) → AreBytes file → AreBytes (packed_code (object_of file))
code_is_bytes file bytes = all_cleared (filter (stands_in false) (ordered (object_of file))) (part_bytes (object_of file) places.Code) (parts_are_bytes file bytes places.Code)

pub init_is_bytes : (file : List ℕ) → AreBytes file → AreBytes (packed_init (object_of file))
init_is_bytes file bytes = all_cleared (filter (stands_in true) (ordered (object_of file))) (part_bytes (object_of file) places.Init) (parts_are_bytes file bytes places.Init)
