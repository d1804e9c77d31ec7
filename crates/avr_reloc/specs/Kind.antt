-- The table of relocation types, column by column. x is the symbol's address plus the addend (S+A), d the distance from the field.
use Rattle.std.specs.Prelude.{ℕ, ◌-◌, ◌^◌, ℤ, pos, neg_ℤ, ◌-ℤ◌}
use Rattle.std.specs.Prelude.{Bool, true, false, ◌&&◌, ◌||◌, Option, Some, None, List, [], ◌∷◌, if◌then◌else◌, ◌==◌, slice_get}
use Rattle.avr_reloc.specs.declared.kind.RelocType.{RelocType}
use Rattle.avr_reloc.specs.declared.kind.RelocType.TheVariants as kinds
use Rattle.avr_reloc.specs.declared.kind.Shape.{Shape}
use Rattle.avr_reloc.specs.declared.kind.Shape.TheVariants as shapes
use Rattle.avr_reloc.specs.declared.patch.RangeFault.{RangeFault}
use Rattle.avr_reloc.specs.declared.patch.RangeFault.TheVariants.{Odd, TooFar}
use Rattle.avr_reloc.specs.Number.{minus, half_of, remainder_of, byte_of, is_odd, is_within}

-- ---- Numbers of the AVR ELF ABI

-- the types in the order of their numbers, from 1 on
abbrev pub kinds_in_order : List RelocType
kinds_in_order =
    kinds.Abs32 ∷ kinds.Rel7 ∷ kinds.Rel13 ∷ kinds.Abs16 ∷ kinds.Pm16
    ∷ kinds.Lo8 ∷ kinds.Hi8 ∷ kinds.Hh8 ∷ kinds.Lo8Neg ∷ kinds.Hi8Neg ∷ kinds.Hh8Neg
    ∷ kinds.Lo8Pm ∷ kinds.Hi8Pm ∷ kinds.Hh8Pm ∷ kinds.Lo8PmNeg ∷ kinds.Hi8PmNeg ∷ kinds.Hh8PmNeg
    ∷ kinds.Call ∷ kinds.Ldi ∷ kinds.Six ∷ kinds.SixAdiw ∷ kinds.Ms8 ∷ kinds.Ms8Neg ∷ kinds.Lo8Gs ∷ kinds.Hi8Gs
    ∷ kinds.Eight ∷ kinds.EightLo ∷ kinds.EightHi ∷ kinds.EightHlo ∷ []

-- the type that has this number
abbrev pub kind_of : ℕ → Option RelocType
kind_of n = if n == 0 then None else slice_get kinds_in_order (n - 1)

-- the number of a type
abbrev pub number_of : RelocType → ℕ
number_of kinds.Abs32 = 1
number_of kinds.Rel7 = 2
number_of kinds.Rel13 = 3
number_of kinds.Abs16 = 4
number_of kinds.Pm16 = 5
number_of kinds.Lo8 = 6
number_of kinds.Hi8 = 7
number_of kinds.Hh8 = 8
number_of kinds.Lo8Neg = 9
number_of kinds.Hi8Neg = 10
number_of kinds.Hh8Neg = 11
number_of kinds.Lo8Pm = 12
number_of kinds.Hi8Pm = 13
number_of kinds.Hh8Pm = 14
number_of kinds.Lo8PmNeg = 15
number_of kinds.Hi8PmNeg = 16
number_of kinds.Hh8PmNeg = 17
number_of kinds.Call = 18
number_of kinds.Ldi = 19
number_of kinds.Six = 20
number_of kinds.SixAdiw = 21
number_of kinds.Ms8 = 22
number_of kinds.Ms8Neg = 23
number_of kinds.Lo8Gs = 24
number_of kinds.Hi8Gs = 25
number_of kinds.Eight = 26
number_of kinds.EightLo = 27
number_of kinds.EightHi = 28
number_of kinds.EightHlo = 29

-- ---- Where the value bits lie

-- the shape of a type's field
abbrev pub shape_of : RelocType → Shape
shape_of kinds.Abs32 = shapes.Long
shape_of kinds.Rel7 = shapes.Branch
shape_of kinds.Rel13 = shapes.Jump
shape_of kinds.Abs16 = shapes.Word
shape_of kinds.Pm16 = shapes.Word
shape_of kinds.Call = shapes.Call
shape_of kinds.Six = shapes.Displacement
shape_of kinds.SixAdiw = shapes.Adiw
shape_of kinds.Eight = shapes.Byte
shape_of kinds.EightLo = shapes.Byte
shape_of kinds.EightHi = shapes.Byte
shape_of kinds.EightHlo = shapes.Byte
shape_of _ = shapes.Immediate

-- bytes of a field
abbrev pub width_of : Shape → ℕ
width_of shapes.Byte = 1
width_of shapes.Long = 4
width_of shapes.Call = 4
width_of _ = 2

-- the field is part of an instruction, and stands at an even offset
abbrev pub is_instruction : Shape → Bool
is_instruction shapes.Byte = false
is_instruction shapes.Word = false
is_instruction shapes.Long = false
is_instruction _ = true

-- the value bits, in byte order, with zeros from the width on
abbrev pub mask_of : Shape → List ℕ
mask_of shapes.Byte = 0xFF ∷ 0x00 ∷ 0x00 ∷ 0x00 ∷ []
mask_of shapes.Word = 0xFF ∷ 0xFF ∷ 0x00 ∷ 0x00 ∷ []
mask_of shapes.Long = 0xFF ∷ 0xFF ∷ 0xFF ∷ 0xFF ∷ []
mask_of shapes.Immediate = 0x0F ∷ 0x0F ∷ 0x00 ∷ 0x00 ∷ []
mask_of shapes.Branch = 0xF8 ∷ 0x03 ∷ 0x00 ∷ 0x00 ∷ []
mask_of shapes.Jump = 0xFF ∷ 0x0F ∷ 0x00 ∷ 0x00 ∷ []
mask_of shapes.Call = 0xF1 ∷ 0x01 ∷ 0xFF ∷ 0xFF ∷ []
mask_of shapes.Displacement = 0x07 ∷ 0x2C ∷ 0x00 ∷ 0x00 ∷ []
mask_of shapes.Adiw = 0xCF ∷ 0x00 ∷ 0x00 ∷ 0x00 ∷ []

-- ---- What is refused

-- the types that need an even number
abbrev pub needs_even : RelocType → Bool
needs_even kinds.Rel7 = true
needs_even kinds.Rel13 = true
needs_even kinds.Pm16 = true
needs_even kinds.Lo8Pm = true
needs_even kinds.Hi8Pm = true
needs_even kinds.Hh8Pm = true
needs_even kinds.Lo8PmNeg = true
needs_even kinds.Hi8PmNeg = true
needs_even kinds.Hh8PmNeg = true
needs_even kinds.Call = true
needs_even kinds.Lo8Gs = true
needs_even kinds.Hi8Gs = true
needs_even _ = false

-- the types that hold a distance
abbrev pub measures_distance : RelocType → Bool
measures_distance kinds.Rel7 = true
measures_distance kinds.Rel13 = true
measures_distance _ = false

-- the numbers that a type can hold; data memory is numbered from 0x800000
abbrev pub is_in_range : RelocType → ℤ → Bool
is_in_range kinds.Rel7 v = is_within (minus 128) (pos 127) v
is_in_range kinds.Rel13 v = is_within (minus 4096) (pos 4094) v
is_in_range kinds.Abs16 v = is_within (pos 0) (pos 0xFFFF) v || is_within (pos 0x800000) (pos 0x80FFFF) v
is_in_range kinds.Pm16 v = is_within (pos 0) (pos 131070) v
is_in_range kinds.Call v = is_within (pos 0) (pos 131070) v
is_in_range kinds.Ldi v = is_within (minus 128) (pos 255) v
is_in_range kinds.Six v = is_within (pos 0) (pos 63) v
is_in_range kinds.SixAdiw v = is_within (pos 0) (pos 63) v
is_in_range kinds.Lo8Gs v = is_within (pos 0) (pos 131070) v
is_in_range kinds.Hi8Gs v = is_within (pos 0) (pos 131070) v
is_in_range kinds.Eight v = is_within (pos 0) (pos 255) v
is_in_range _ v = true

-- from behind the field's first word to x
abbrev pub distance_of : ℤ → ℤ → ℤ
distance_of x place = x -ℤ place -ℤ pos 2

-- what is tested for evenness and range
abbrev pub tested_of : RelocType → ℤ → ℤ → ℤ
tested_of t x place = if measures_distance t then distance_of x place else x

-- why the field can't hold its value: an odd number comes before one out of range
abbrev pub fault_of : RelocType → ℤ → ℤ → Option RangeFault
fault_of t x place =
    let v = tested_of t x place in
    if needs_even t && is_odd v then Some Odd else if is_in_range t v then None else Some (TooFar v)

-- the number of a fault
abbrev pub fault_number_of : RangeFault → ℕ
fault_number_of Odd = 1
fault_number_of (TooFar v) = 2

-- ---- The value

-- the number that the value bits say
abbrev pub value_of : RelocType → ℤ → ℤ → ℕ
value_of kinds.Abs32 x d = remainder_of x (2 ^ 32)
value_of kinds.Rel7 x d = remainder_of (half_of d) 128
value_of kinds.Rel13 x d = remainder_of (half_of d) 4096
value_of kinds.Abs16 x d = remainder_of x (2 ^ 16)
value_of kinds.Pm16 x d = remainder_of (half_of x) (2 ^ 16)
value_of kinds.Lo8 x d = byte_of 0 x
value_of kinds.Hi8 x d = byte_of 1 x
value_of kinds.Hh8 x d = byte_of 2 x
value_of kinds.Lo8Neg x d = byte_of 0 (neg_ℤ x)
value_of kinds.Hi8Neg x d = byte_of 1 (neg_ℤ x)
value_of kinds.Hh8Neg x d = byte_of 2 (neg_ℤ x)
value_of kinds.Lo8Pm x d = byte_of 0 (half_of x)
value_of kinds.Hi8Pm x d = byte_of 1 (half_of x)
value_of kinds.Hh8Pm x d = byte_of 2 (half_of x)
value_of kinds.Lo8PmNeg x d = byte_of 0 (half_of (neg_ℤ x))
value_of kinds.Hi8PmNeg x d = byte_of 1 (half_of (neg_ℤ x))
value_of kinds.Hh8PmNeg x d = byte_of 2 (half_of (neg_ℤ x))
value_of kinds.Call x d = remainder_of (half_of x) (2 ^ 16)
value_of kinds.Ldi x d = byte_of 0 x
value_of kinds.Six x d = remainder_of x 64
value_of kinds.SixAdiw x d = remainder_of x 64
value_of kinds.Ms8 x d = byte_of 3 x
value_of kinds.Ms8Neg x d = byte_of 3 (neg_ℤ x)
value_of kinds.Lo8Gs x d = byte_of 0 (half_of x)
value_of kinds.Hi8Gs x d = byte_of 1 (half_of x)
value_of kinds.Eight x d = byte_of 0 x
value_of kinds.EightLo x d = byte_of 0 x
value_of kinds.EightHi x d = byte_of 1 x
value_of kinds.EightHlo x d = byte_of 2 x
