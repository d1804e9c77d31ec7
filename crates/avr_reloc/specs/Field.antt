-- What a finished field says, and what a patch is.
use Rattle.std.specs.Prelude.{◌≡◌, ℕ, ◌+◌, ◌-◌, ◌*◌, ◌/◌, ◌%◌, ◌<◌, ◌≤◌, ◌^◌, ℤ, pos, ◌≤ℤ◌}
use Rattle.std.specs.Prelude.{List, [], ◌∷◌, None, length, map, replicate, slice_index, bit_and, bit_or}
use Rattle.avr_reloc.specs.declared.kind.RelocType.{RelocType}
use Rattle.avr_reloc.specs.declared.kind.Shape.{Shape}
use Rattle.avr_reloc.specs.declared.kind.Shape.TheVariants as shapes
use Rattle.avr_reloc.specs.declared.patch.Patch.{Patch}
use Rattle.avr_reloc.specs.Number.{minus}
use Rattle.avr_reloc.specs.Kind.{shape_of, width_of, mask_of, fault_of, distance_of, value_of}

-- ---- Reading

-- the little-endian word at i
abbrev pub word_at : List ℕ → ℕ → ℕ
word_at f i = slice_index f i + 256 * slice_index f (i + 1)

-- the number that the value bits of a field say; a call's is the whole 22-bit address, whose high bits stand in the first word
abbrev pub reading_of : Shape → List ℕ → ℕ
reading_of shapes.Byte f = slice_index f 0
reading_of shapes.Word f = word_at f 0
reading_of shapes.Long f = word_at f 0 + 65536 * word_at f 2
reading_of shapes.Immediate f = let w = word_at f 0 in w % 16 + 16 * (w / 256 % 16)
reading_of shapes.Branch f = word_at f 0 / 8 % 128
reading_of shapes.Jump f = word_at f 0 % 4096
reading_of shapes.Call f = let w = word_at f 0 in word_at f 2 + 65536 * (w % 2) + 131072 * (w / 16 % 32)
reading_of shapes.Displacement f = let w = word_at f 0 in w % 8 + 8 * (w / 1024 % 4) + 32 * (w / 8192 % 2)
reading_of shapes.Adiw f = let w = word_at f 0 in w % 16 + 16 * (w / 64 % 4)

-- ---- Value bits and the others

-- all are bytes
abbrev pub AreBytes : List ℕ → Type 0
AreBytes bs = (i : ℕ) → slice_index bs i < 256

-- the bits that are no value bits, in byte order, with 0xFF from the width on
abbrev pub keep_of : Shape → List ℕ
keep_of s = map (λ b. 0xFF - b) (mask_of s)

-- the bits of the bytes that lie in these bits, byte by byte
abbrev pub masked : List ℕ → List ℕ → List ℕ
masked [] bits = []
masked (b ∷ bs) [] = []
masked (b ∷ bs) (k ∷ ks) = bit_and b k ∷ masked bs ks

-- the value bits of a field are 0, as in a package
abbrev pub HasZeroValue : Shape → List ℕ → Type 0
HasZeroValue s q = masked q (mask_of s) ≡ replicate (width_of s) 0

-- ---- A patched field

-- the bytes f of a field in the image, whose bytes in the package are q
pub record FieldHolds (t : RelocType) (x place : ℤ) (q f : List ℕ) : Type 0 where
  pub possible : fault_of t x place ≡ None
  pub width : length f ≡ width_of (shape_of t)
  pub outside : masked f (keep_of (shape_of t)) ≡ masked q (keep_of (shape_of t))
  pub inside : reading_of (shape_of t) f ≡ value_of t x (distance_of x place)

-- ---- Patches

-- from -2^40 to 2^40, both included: no sum or difference of such numbers wraps
abbrev pub IsNear : ℤ → Type 0
IsNear v = (minus (2 ^ 40) ≤ℤ v) × (v ≤ℤ pos (2 ^ 40))

-- how many numbers a patch sets in a field of this shape
abbrev pub limit_of : Shape → ℕ
limit_of shapes.Byte = 256
limit_of shapes.Word = 65536
limit_of shapes.Long = 2 ^ 32
limit_of shapes.Immediate = 256
limit_of shapes.Branch = 128
limit_of shapes.Jump = 4096
limit_of shapes.Call = 65536
limit_of shapes.Displacement = 64
limit_of shapes.Adiw = 64

-- four bytes that say v, with no other bit
pub record SaysOnly (s : Shape) (v : ℕ) (set : List ℕ) : Type 0 where
  pub apart : masked set (keep_of s) ≡ 0 ∷ 0 ∷ 0 ∷ 0 ∷ []
  pub reads : reading_of s set ≡ v

-- the patch of a type: it keeps all but the value bits, and sets those of the value
pub record IsPatchOf (t : RelocType) (x place : ℤ) (p : Patch) : Type 0 where
  pub width : p.width ≡ width_of (shape_of t)
  pub keep : p.keep ≡ keep_of (shape_of t)
  pub set : SaysOnly (shape_of t) (value_of t x (distance_of x place)) p.set

-- four bytes each, which from the width on change nothing
pub record IsPadded (p : Patch) : Type 0 where
  pub keep_bytes : AreBytes p.keep
  pub set_bytes : AreBytes p.set
  pub keep_behind : (i : ℕ) → p.width ≤ i → i < 4 → slice_index p.keep i ≡ 0xFF
  pub set_behind : (i : ℕ) → p.width ≤ i → slice_index p.set i ≡ 0

-- each byte as Patch::byte makes it: the kept bits of old, and the set bits
abbrev pub patched : List ℕ → List ℕ → List ℕ → List ℕ
patched [] set old = []
patched (k ∷ ks) [] old = []
patched (k ∷ ks) (s ∷ ss) [] = []
patched (k ∷ ks) (s ∷ ss) (b ∷ bs) = bit_or (bit_and b k) s ∷ patched ks ss bs

-- whatever the value bits were before: a patch over the package's bytes q, or over an older patch of them, is the field
abbrev pub GivesField : RelocType → ℤ → ℤ → Patch → Type 0
GivesField t x place p =
    (q old : List ℕ) → AreBytes old → length old ≡ width_of (shape_of t)
    → masked old (keep_of (shape_of t)) ≡ masked q (keep_of (shape_of t))
    → FieldHolds t x place q (patched p.keep p.set old)

-- byte i of the patched field is what Patch::byte makes of byte i before, as where a field is patched in two pieces
abbrev pub GivesBytes : RelocType → ℤ → ℤ → Patch → Type 0
GivesBytes t x place p =
    (q old f : List ℕ) → AreBytes old → AreBytes f → length old ≡ width_of (shape_of t)
    → masked old (keep_of (shape_of t)) ≡ masked q (keep_of (shape_of t)) → FieldHolds t x place q f
    → (i : ℕ) → i < width_of (shape_of t) → bit_or (bit_and (slice_index old i) (slice_index p.keep i)) (slice_index p.set i) ≡ slice_index f i
