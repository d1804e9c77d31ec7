-- Spellings are bytes.
use Rattle.std.proofs.Common.{⊎_elim, ℕ, zero, suc, ◌+◌, ◌/◌, ◌%◌, ◌<◌, ◌≤◌, Bool, true, false, cond, List, [], ◌∷◌, ◌++◌, length, replicate, sym, ◌∙◌, subst, arith}
use Rattle.std.specs.List.{flat_map, AllByRecursion}
use Rattle.std.specs.Int.{w16, cast_unsigned}
use Rattle.std.specs.Prelude.{FitsSigned, ℤ, pos, negsuc, slice_index}
use Rattle.std.proofs.lemmas.Bool.{cases_lt}
use Rattle.avr_reloc.specs.declared.kind.RelocType.{RelocType}
use Rattle.avr_reloc.specs.Kind.{number_of}
use Rattle.avr_reloc.specs.Field.{AreBytes}
use Rattle.avr_reloc.proofs.Numbers.{kind_past, kind_of-number}
use Rattle.component_package.specs.declared.part.Place.{Place}
use Rattle.component_package.specs.declared.part.Place.TheVariants as places
use Rattle.component_package.specs.declared.part.Export.{Export}
use Rattle.component_package.specs.declared.part.Reloc.{Reloc}
use Rattle.component_package.specs.packages.Component.{Component, number_of_place, weak_mark, export_bytes, reloc_bytes, header_bytes, spelling}
use Rattle.component_package.specs.packages.Reading.{length_of, header_of_component, reloc_end}
use Rattle.component_package.specs.packages.Grammar.{IsExport, IsReloc, IsComponent, Spells}
use Rattle.component_package.proofs.ReadAgain.{length-spelling}

-- ---- lists of bytes

-- bytes behind bytes
pub bytes_append : (a b : List ℕ) → AreBytes a → AreBytes b → AreBytes (a ++ b)
bytes_append [] b one more i = more i
bytes_append (x ∷ a) b one more zero = one 0
bytes_append (x ∷ a) b one more (suc i) = bytes_append a b (λ k. one (suc k)) more i

-- the same as a record, from which the list can be read
pub record Bytes (xs : List ℕ) : Type 0 where
  pub are : AreBytes xs

pub none : Bytes []
none = record { are = λ i. omega arith }

pub more : (x : ℕ) {xs : List ℕ} → x < 256 → Bytes xs → Bytes (x ∷ xs)
more x {xs} small rest = record { are = each }
  where
    each : (i : ℕ) → slice_index (x ∷ xs) i < 256
    each zero = small
    each (suc i) = rest.are i

pub both : {a b : List ℕ} → Bytes a → Bytes b → Bytes (a ++ b)
both {a} {b} one other = record { are = bytes_append a b one.are other.are }

-- zeros
zeros : (n : ℕ) → Bytes (replicate n 0)
zeros zero = none
zeros (suc n) = more 0 (omega arith) (zeros n)

-- what each element writes
pub all_written : {X : Type 0} (P : X → Type 0) (write : X → List ℕ) → ((x : X) → P x → Bytes (write x)) → (xs : List X) → AllByRecursion P xs → Bytes (flat_map write xs)
all_written P write each [] all = none
all_written P write each (x ∷ xs) all = both (each x all.0) (all_written P write each xs all.1)

-- a number of two bytes, and what follows
pub two : (n : ℕ) {xs : List ℕ} → n < 65536 → Bytes xs → Bytes (n % 256 ∷ n / 256 ∷ xs)
two n small rest = more (n % 256) (omega arith) (more (n / 256) (omega arith) rest)

-- ---- entries

place_small : (p : Place) (weak : Bool) → number_of_place p + weak_mark weak < 256
place_small places.Code true = omega arith
place_small places.Code false = omega arith
place_small places.Init true = omega arith
place_small places.Init false = omega arith
place_small places.Bss true = omega arith
place_small places.Bss false = omega arith
place_small places.Absolute true = omega arith
place_small places.Absolute false = omega arith

part_small : (init weak : Bool) → cond init 1 0 + weak_mark weak < 256
part_small true true = omega arith
part_small true false = omega arith
part_small false true = omega arith
part_small false false = omega arith

kind_small : (t : RelocType) → number_of t < 256
kind_small t = ⊎_elim (λ low. omega (arith, low)) (λ high. absurd (let none = sym (kind_of-number t) ∙ kind_past (number_of t) (omega (arith, high)) in cc)) (cases_lt (number_of t) 30)

signed_small : (z : ℤ) → FitsSigned w16 z → cast_unsigned w16 z < 65536
signed_small (pos n) fits = omega (arith, fits.sfits)
signed_small (negsuc n) fits = omega arith

module _ (c : Component) (is : IsComponent c) where
  length_small : (p : Place) → length_of (header_of_component c) p < 65536
  length_small places.Code = omega (arith, length-spelling c, is.short)
  length_small places.Init = omega (arith, length-spelling c, is.short)
  length_small places.Bss = is.bss
  length_small places.Absolute = omega arith

  export_are : (e : Export) → IsExport c e → Bytes (export_bytes e)
  export_are e good = two e.symbol good.symbol (more _ (place_small e.place e.weak) (more 0 (omega arith) (two e.value (let low = length_small e.place in omega (arith, low, good.value)) none)))

  offset_small : (r : Reloc) → IsReloc c r → r.offset < 65536
  offset_small r good = by r.in_init good.inside
    where
      by : (b : Bool) → reloc_end r ≤ length (cond b c.init c.code) → r.offset < 65536
      by true inside = omega (arith, length-spelling c, is.short, inside)
      by false inside = omega (arith, length-spelling c, is.short, inside)

  reloc_are : (r : Reloc) → IsReloc c r → Bytes (reloc_bytes r)
  reloc_are r good =
      two r.offset (offset_small r good) (more _ (part_small r.in_init r.weak) (more _ (kind_small r.kind) (two r.target good.small (two _ (signed_small r.addend good.addend) none))))

  header_are : Bytes (header_bytes c)
  header_are =
      let whole = length-spelling c in
      more 0x46 (omega arith) (more 0x43 (omega arith) (more 0x50 (omega arith) (more 0x31 (omega arith)
      (two c.component is.component (two c.version is.version (two (length c.code) (omega (arith, whole, is.short)) (two (length c.init) (omega (arith, whole, is.short))
      (two c.bss is.bss (two (length c.exports) (omega (arith, whole, is.short)) (two (length c.relocs) (omega (arith, whole, is.short)) (zeros 14)))))))))))

  spelling_are : Bytes (spelling c)
  spelling_are =
      both header_are (both (record { are = is.code }) (both (record { are = is.init })
      (both (all_written (IsExport c) export_bytes export_are c.exports is.exports) (all_written (IsReloc c) reloc_bytes reloc_are c.relocs is.relocs))))

-- a package is bytes
pub spelled_bytes : (b : List ℕ) (c : Component) → Spells b c → AreBytes b
spelled_bytes b c spells = subst AreBytes (sym spells.bytes) (spelling_are c spells.component).are
