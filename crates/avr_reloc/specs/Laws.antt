-- Laws of fields and patches, each proved on a function of src/laws.rt.
use Rattle.std.specs.Prelude.{◌≡◌, ◌↔◌, ℕ, ℤ, Some, List, length}
use Rattle.std.specs.List.{All, AllPairs}
use Rattle.avr_reloc.specs.declared.kind.RelocType.{RelocType}
use Rattle.avr_reloc.specs.declared.kind.Shape.{Shape}
use Rattle.avr_reloc.specs.declared.patch.Patch.{Patch}
use Rattle.avr_reloc.specs.declared.fixup.Fixup.{Fixup}
use Rattle.avr_reloc.specs.Kind.{kind_of, number_of, shape_of, width_of}
use Rattle.avr_reloc.specs.Field.{AreBytes, keep_of, masked, patched, reading_of, HasZeroValue, FieldHolds, GivesField}
use Rattle.avr_reloc.specs.Fixups.{AreApart, CanBePut, ArePut}

-- ---- Numbers

-- each type has a number of its own
abbrev pub NumbersMatch : Type 0
NumbersMatch = (n : ℕ) (t : RelocType) → (kind_of n ≡ Some t) ↔ (number_of t ≡ n)

-- ---- One field

-- two fields that read alike and agree outside the value bits are the same bytes
abbrev pub ReadingDetermines : Type 0
ReadingDetermines =
    (s : Shape) (e f : List ℕ) → AreBytes e → AreBytes f → length e ≡ width_of s → length f ≡ width_of s
    → masked e (keep_of s) ≡ masked f (keep_of s) → reading_of s e ≡ reading_of s f → e ≡ f

-- a field holds its value over the package's bytes in one way at most
abbrev pub FieldIsDetermined : Type 0
FieldIsDetermined =
    (t : RelocType) (x place : ℤ) (q e f : List ℕ) → AreBytes e → AreBytes f
    → FieldHolds t x place q e → FieldHolds t x place q f → e ≡ f

-- a patch over an older patch of the same field leaves nothing of it
abbrev pub OlderIsAbsorbed : Type 0
OlderIsAbsorbed =
    (t : RelocType) (older newer place : ℤ) (p : Patch) (q f : List ℕ) → AreBytes f → GivesField t newer place p
    → FieldHolds t older place q f → FieldHolds t newer place q (patched p.keep p.set f)

-- clearing the value bits of a patched field gives the package's bytes, whose value bits are 0
abbrev pub ClearingRestores : Type 0
ClearingRestores =
    (t : RelocType) (x place : ℤ) (q f : List ℕ) → AreBytes q → length q ≡ width_of (shape_of t) → HasZeroValue (shape_of t) q
    → FieldHolds t x place q f → masked f (keep_of (shape_of t)) ≡ q

-- ---- Many fields

-- one list of bytes at most is old with these fields patched
abbrev pub PutIsDetermined : Type 0
PutIsDetermined =
    (xs : List Fixup) (old e f : List ℕ) → AreBytes e → AreBytes f → ArePut xs old e → ArePut xs old f → e ≡ f

-- some bytes that are old with these fields patched
pub record Exists (xs : List Fixup) (old : List ℕ) : Type 0 where
  pub new : List ℕ
  pub bytes : AreBytes new
  pub put : ArePut xs old new

-- fields that share no byte, each of which can hold its value, can all be patched
abbrev pub PutExists : Type 0
PutExists =
    (xs : List Fixup) (old : List ℕ) → AreBytes old → AllPairs AreApart xs → All (CanBePut (length old)) xs → Exists xs old
