-- Parts and fields of an image, as they lie in one page.
use Rattle.std.specs.Prelude.{◌≡◌, ℕ, pos, ◌+◌, ◌-◌, ◌<◌, true, false, ◌&&◌, nat_le, nat_lt, List, length, take, slice_index, slice_index_or, bit_and, bit_or, if◌then◌else◌}
use Rattle.std.specs.List.{list_any}
use Rattle.avr_reloc.specs.declared.fixup.Fixup.{Fixup}
use Rattle.avr_reloc.specs.Kind.{shape_of, width_of}
use Rattle.avr_reloc.specs.Field.{AreBytes, FieldHolds}
use Rattle.avr_reloc.specs.Fixups.{covers}

-- the 256 bytes from `base` on of these bytes, and 0xFF behind them
abbrev pub Shows : ℕ → List ℕ → List ℕ → Type 0
Shows base b page = (k : ℕ) → k < 256 → slice_index page k ≡ slice_index_or b (base + k) 255

-- what of a part at a place lies in the 256 bytes from `base` on is copied
abbrev pub copied_in : List ℕ → ℕ → ℕ → ℕ → ℕ
copied_in part place at old = if nat_le place at && nat_lt at (place + length part) then slice_index part (at - place) else old

-- the byte at a place, where the first n bytes of a field at `from` are patched
abbrev pub byte_in : List ℕ → List ℕ → ℕ → ℕ → ℕ → ℕ → ℕ
byte_in keep set from n at old =
    if nat_le from at && nat_lt at (from + n) then bit_or (bit_and old (slice_index keep (at - from))) (slice_index set (at - from)) else old

-- what of one field lies in the 256 bytes from `base` on is patched, whatever its other bytes are
pub record PatchesWindow (x : Fixup) (base : ℕ) (old new : List ℕ) : Type 0 where
  pub outside : (k : ℕ) → k < 256 → covers (base + k) x ≡ false → slice_index new k ≡ slice_index old k
  pub inside : (k : ℕ) (q f : List ℕ) → k < 256 → covers (base + k) x ≡ true → AreBytes q → AreBytes f → length q ≡ width_of (shape_of x.kind)
      → FieldHolds x.kind x.s_plus_a (pos x.place) q f → slice_index old k ≡ slice_index q (base + k - x.place) → slice_index new k ≡ slice_index f (base + k - x.place)

-- no field before entry i reaches a byte from `base` on
abbrev pub ArePassed : List Fixup → ℕ → ℕ → Type 0
ArePassed xs base i = (at : ℕ) → nat_le base at ≡ true → list_any (covers at) (take i xs) ≡ false
