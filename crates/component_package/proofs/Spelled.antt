-- Bytes with no fault are the spelling of what they say.
use Rattle.std.proofs.Common.{◌≡◌, ℕ, ◌+◌, ◌*◌, ◌/◌, ◌%◌, ◌<◌, ◌≤◌, true, cond, eqb, Option, Some, None, List, [], ◌∷◌, ◌++◌, length, take, drop, get_or, map, replicate, refl, sym, ap, ap₂, ◌∙◌, arith, slice_range, take-add}
use Rattle.std.specs.Prelude.{not, ◌||◌, nat_le, nat_lt, is_some, unwrap_or}
use Rattle.std.specs.List.{flat_map, range_with_len}
use Rattle.std.specs.Result.{result_err}
use Rattle.std.specs.Option.{option_or}
use Rattle.std.specs.Int.{w16, cast_signed, cast_unsigned}
use Rattle.std.proofs.lemmas.Int.{of_z-to_z}
use Rattle.std.proofs.lemmas.Bool.{agree_below_at, eqb-true, leb-true, and_parts, lt-ltb, ltb-true, not-false}
use Rattle.std.proofs.lemmas.List.{append-nil, drop_all, length-take, get_or-take}
use Rattle.std.proofs.lemmas.List.Folds.{drop_split}
use Rattle.std.proofs.lemmas.List.FromFn.{fill_by_all}
use Rattle.avr_reloc.specs.declared.kind.RelocType.{RelocType}
use Rattle.avr_reloc.specs.declared.kind.RelocType.TheVariants.{Abs32}
use Rattle.avr_reloc.specs.Kind.{kind_of, number_of}
use Rattle.avr_reloc.specs.Field.{AreBytes}
use Rattle.avr_reloc.proofs.Fixups.{AreBytes-slice, length-field}
use Rattle.component_package.specs.declared.part.Place.{Place}
use Rattle.component_package.specs.declared.part.Place.TheVariants as places
use Rattle.component_package.specs.declared.part.Header.{Header}
use Rattle.component_package.specs.declared.part.Reloc.{Reloc}
use Rattle.component_package.specs.packages.Numbers.{u16_at}
use Rattle.component_package.specs.packages.Component.{export_bytes, reloc_bytes, header_bytes, spelling, number_of_place}
use Rattle.component_package.specs.packages.Reading.{header_of, exports_at, relocs_at, total_of, is_blank, has_magic, header_fault, place_of, length_of, is_above, check_export_of, export_in, export_of, raw_export, symbol_before, export_fault, exports_fault, is_inside, is_aligned, is_behind, has_target, is_clear, reloc_with, reloc_in, reloc_of, raw_reloc, reloc_before, raw_field, reloc_fault, relocs_fault, package_fault, component_of}
use Rattle.component_package.proofs.First.{none_or, no_fault, chosen, spared}
use Rattle.component_package.proofs.Lists.{all_zeros, cells, entries}
use Rattle.component_package.proofs.HeaderLemmas.{good_header, IsGoodHeader, parts_have_lengths}

-- the low byte of a number, and the high one
low_byte : (x y : ℕ) → x < 256 → (x + 256 * y) % 256 ≡ x
low_byte x y p = omega arith

high_byte : (x y : ℕ) → x < 256 → (x + 256 * y) / 256 ≡ y
high_byte x y p = omega arith

-- ---- exports

-- the byte of a place and a weak mark
kind_byte : (k : ℕ) → k < 256 → is_some (place_of (k % 128)) ≡ true
    → number_of_place (unwrap_or (place_of (k % 128)) places.Code) + cond (nat_le 128 k) 128 0 ≡ k
kind_byte k lt known =
    let right = agree_below_at (λ k. not (is_some (place_of (k % 128))) || eqb (number_of_place (unwrap_or (place_of (k % 128)) places.Code) + cond (nat_le 128 k) 128 0) k) (λ k. true) 256 k refl lt in
    eqb-true _ _ (rw known at right)

-- an export's six bytes
export_spelled : (a b k z c d : ℕ) → a < 256 → b < 256 → k < 256 → c < 256 → d < 256 → is_some (place_of (k % 128)) ≡ true → z ≡ 0
    → export_bytes (export_of (a ∷ b ∷ k ∷ z ∷ c ∷ d ∷ [])) ≡ a ∷ b ∷ k ∷ z ∷ c ∷ d ∷ []
export_spelled a b k z c d p q r s t known zero_byte =
    rw (low_byte a b p, high_byte a b p, low_byte c d s, high_byte c d s, kind_byte k r known, zero_byte) refl

-- what an export is that has no fault
pub record IsGoodExport (h : Header) (before : Option ℕ) (raw : List ℕ) : Type 0 where
  pub symbol : 16 ≤ u16_at raw 0
  pub rises : is_above before (u16_at raw 0) ≡ true
  pub known : is_some (place_of (get_or raw 2 0 % 128)) ≡ true
  pub blank : get_or raw 3 0 ≡ 0
  pub inside : u16_at raw 4 ≤ length_of h (unwrap_or (place_of (get_or raw 2 0 % 128)) places.Code)

-- an export in a place that there is, with a value within it
record IsGoodPlace (h : Header) (raw : List ℕ) (place : Option Place) : Type 0 where
  pub known : is_some place ≡ true
  pub blank : get_or raw 3 0 ≡ 0
  pub inside : u16_at raw 4 ≤ length_of h (unwrap_or place places.Code)

-- no fault says so
good_place : (h : Header) (i : ℕ) (raw : List ℕ) (place : Option Place) → result_err (export_in h i raw place) ≡ None → IsGoodPlace h raw place
good_place h i raw None e = absurd cc
good_place h i raw (Some place) e =
    let c = chosen _ _ _ e in
    let both = and_parts _ _ c.0 in
    record { known = refl; blank = eqb-true _ _ both.0; inside = leb-true _ _ both.1 }

-- no fault says so
pub good_export : (h : Header) (before : Option ℕ) (i : ℕ) (raw : List ℕ) → result_err (check_export_of h before i raw) ≡ None → IsGoodExport h before raw
good_export h before i raw e =
    let c = chosen _ _ _ e in
    let both = and_parts _ _ c.0 in
    let p = good_place h i raw (place_of (get_or raw 2 0 % 128)) c.1 in
    record { symbol = leb-true _ _ both.0; rises = both.1; known = p.known; blank = p.blank; inside = p.inside }

-- the bytes of an export with no fault
export_there : (b : List ℕ) (i : ℕ) → AreBytes b → length b ≡ total_of (header_of b) → i < (header_of b).exports → export_fault b i ≡ None
    → export_bytes (export_of (raw_export b i)) ≡ raw_export b i
export_there b i bytes whole lt none =
    let raw = raw_export b i in
    let at = exports_at (header_of b) + 6 * i in
    let six : length raw ≡ 6 = length-field b at 6 (omega arith) in
    let raw_bytes : AreBytes raw = AreBytes-slice b at (at + 6) bytes in
    let good = good_export (header_of b) (symbol_before b i) i raw none in
    let as_cells = cells raw 6 six in
    ap (λ r. export_bytes (export_of r)) as_cells
    ∙ export_spelled (get_or raw 0 0) (get_or raw 1 0) (get_or raw 2 0) (get_or raw 3 0) (get_or raw 4 0) (get_or raw 5 0) (raw_bytes 0) (raw_bytes 1) (raw_bytes 2) (raw_bytes 4) (raw_bytes 5) good.known good.blank
    ∙ sym as_cells

-- ---- relocations

-- the byte of a part and a weak mark
place_byte : (k : ℕ) → k < 256 → k % 128 < 2 → cond (eqb (k % 128) 1) 1 0 + cond (nat_le 128 k) 128 0 ≡ k
place_byte k lt known =
    let right = agree_below_at (λ k. not (nat_lt (k % 128) 2) || eqb (cond (eqb (k % 128) 1) 1 0 + cond (nat_le 128 k) 128 0) k) (λ k. true) 256 k refl lt in
    eqb-true _ _ (rw (lt-ltb (k % 128) 2 known) at right)

-- the byte of a type
kind_number : (t : ℕ) → t < 256 → is_some (kind_of t) ≡ true → number_of (unwrap_or (kind_of t) Abs32) ≡ t
kind_number t lt known =
    let right = agree_below_at (λ t. not (is_some (kind_of t)) || eqb (number_of (unwrap_or (kind_of t) Abs32)) t) (λ t. true) 256 t refl lt in
    eqb-true _ _ (rw known at right)

-- a relocation's eight bytes
reloc_spelled : (a b k t c d e f : ℕ) → a < 256 → b < 256 → k < 256 → t < 256 → c < 256 → d < 256 → e < 256 → f < 256 → k % 128 < 2 → is_some (kind_of t) ≡ true
    → reloc_bytes (reloc_of (a ∷ b ∷ k ∷ t ∷ c ∷ d ∷ e ∷ f ∷ [])) ≡ a ∷ b ∷ k ∷ t ∷ c ∷ d ∷ e ∷ f ∷ []
reloc_spelled a b k t c d e f p q r s u v w x place known =
    let addend : cast_unsigned w16 (cast_signed w16 (e + 256 * f)) ≡ e + 256 * f = of_z-to_z w16 (e + 256 * f) (omega arith) in
    rw (low_byte a b p, high_byte a b p, place_byte k r place, kind_number t s known, low_byte c d u, high_byte c d u, addend, low_byte e f w, high_byte e f w) refl

-- what a relocation is that has no fault
pub record IsGoodReloc (h : Header) (before : Option Reloc) (raw field : List ℕ) (kind : Option RelocType) (r : Reloc) : Type 0 where
  pub known : is_some kind ≡ true
  pub byte : get_or raw 2 0 % 128 < 2
  pub inside : is_inside h r ≡ true
  pub aligned : is_aligned r ≡ true
  pub behind : is_behind before r ≡ true
  pub target : has_target r ≡ true
  pub clear : is_clear r.kind field ≡ true

-- no fault says so, by the type
good_kind : (h : Header) (before : Option Reloc) (i : ℕ) (raw field : List ℕ) (kind : Option RelocType) → result_err (reloc_in h before i raw field kind) ≡ None
    → IsGoodReloc h before raw field kind (reloc_with raw (unwrap_or kind Abs32))
good_kind h before i raw field None e = absurd cc
good_kind h before i raw field (Some kind) e =
    let place = spared _ _ _ e in
    let order = spared _ _ _ place.1 in
    let target = spared _ _ _ order.1 in
    let clear = spared _ _ _ target.1 in
    let parts = and_parts _ _ (not-false _ place.0) in
    let front = and_parts _ _ parts.0 in
    record {
      known = refl;
      byte = ltb-true _ _ front.0;
      inside = front.1;
      aligned = parts.1;
      behind = not-false _ order.0;
      target = not-false _ target.0;
      clear = not-false _ clear.0;
    }

-- no fault says so
pub good_reloc : (h : Header) (before : Option Reloc) (i : ℕ) (raw field : List ℕ)
    → result_err (reloc_in h before i raw field (kind_of (get_or raw 3 0))) ≡ None
    → IsGoodReloc h before raw field (kind_of (get_or raw 3 0)) (reloc_of raw)
good_reloc h before i raw field e = good_kind h before i raw field (kind_of (get_or raw 3 0)) e

-- the bytes of a relocation with no fault
reloc_there : (b : List ℕ) (i : ℕ) → AreBytes b → length b ≡ total_of (header_of b) → i < (header_of b).relocs → reloc_fault b i ≡ None
    → reloc_bytes (reloc_of (raw_reloc b i)) ≡ raw_reloc b i
reloc_there b i bytes whole lt none =
    let raw = raw_reloc b i in
    let at = relocs_at (header_of b) + 8 * i in
    let eight : length raw ≡ 8 = length-field b at 8 (omega arith) in
    let raw_bytes : AreBytes raw = AreBytes-slice b at (at + 8) bytes in
    let good = good_reloc (header_of b) (reloc_before b i) i raw (raw_field b (reloc_of raw)) none in
    let as_cells = cells raw 8 eight in
    ap (λ r. reloc_bytes (reloc_of r)) as_cells
    ∙ reloc_spelled (get_or raw 0 0) (get_or raw 1 0) (get_or raw 2 0) (get_or raw 3 0) (get_or raw 4 0) (get_or raw 5 0) (get_or raw 6 0) (get_or raw 7 0)
    (raw_bytes 0) (raw_bytes 1) (raw_bytes 2) (raw_bytes 3) (raw_bytes 4) (raw_bytes 5) (raw_bytes 6) (raw_bytes 7) good.byte good.known
    ∙ sym as_cells

-- ---- the header

-- the four bytes of the magic
record HasMagic (b : List ℕ) : Type 0 where
  pub first : get_or b 0 0 ≡ 0x46
  pub second : get_or b 1 0 ≡ 0x43
  pub third : get_or b 2 0 ≡ 0x50
  pub fourth : get_or b 3 0 ≡ 0x31

-- the test says so
magic_there : (b : List ℕ) → has_magic b ≡ true → HasMagic b
magic_there b e =
    let x = and_parts _ _ e in
    let y = and_parts _ _ x.0 in
    let z = and_parts _ _ y.0 in
    record { first = eqb-true _ _ z.0; second = eqb-true _ _ z.1; third = eqb-true _ _ y.1; fourth = eqb-true _ _ x.1 }

-- the first n bytes by their cells
front_cells : (b : List ℕ) (n : ℕ) → n ≤ length b → take n b ≡ map (λ k. get_or b k 0) (range_with_len 0 n)
front_cells b n long =
    let size : length (take n b) ≡ n = omega (arith, length-take n b) in
    fill_by_all (λ k. get_or b k 0) (take n b) n 0 size (λ k lt. get_or-take n b k 0 lt)

-- the blank bytes are zeros
blank_there : (b : List ℕ) → 32 ≤ length b → is_blank b ≡ true → slice_range b 18 32 ≡ replicate 14 0
blank_there b long blank = all_zeros (slice_range b 18 32) blank ∙ ap (λ n. replicate n 0) (length-field b 18 14 long)

-- the header's numbers and zeros are the first 32 bytes
header_there : (b : List ℕ) → AreBytes b → IsGoodHeader b → header_bytes (component_of b) ≡ slice_range b 0 32
header_there b bytes good =
    let m = magic_there b good.marked in
    let lengths = parts_have_lengths b good.whole in
    let code = ap (λ (h : Header). h.code) lengths in
    let init = ap (λ (h : Header). h.init) lengths in
    let exports = ap (λ (h : Header). h.exports) lengths in
    let relocs = ap (λ (h : Header). h.relocs) lengths in
    let halves : slice_range b 0 32 ≡ take 18 b ++ slice_range b 18 32 = take-add 18 14 b in
    let low = λ (at : ℕ). low_byte (get_or b at 0) (get_or b (at + 1) 0) (bytes at) in
    let high = λ (at : ℕ). high_byte (get_or b at 0) (get_or b (at + 1) 0) (bytes at) in
    rw (
      halves,
      front_cells b 18 (omega (arith, good.long)),
      blank_there b good.long good.blank,
      m.first,
      m.second,
      m.third,
      m.fourth,
      code,
      init,
      exports,
      relocs,
      low 4,
      high 4,
      low 6,
      high 6,
      low 8,
      high 8,
      low 10,
      high 10,
      low 12,
      high 12,
      low 14,
      high 14,
      low 16,
      high 16,
    ) refl

-- ---- the whole

-- the parts of a faultless package
pub record IsFaultless (b : List ℕ) : Type 0 where
  pub header : IsGoodHeader b
  pub exports : (i : ℕ) → i < (header_of b).exports → export_fault b i ≡ None
  pub relocs : (i : ℕ) → i < (header_of b).relocs → reloc_fault b i ≡ None

-- no fault says so
pub faultless : (b : List ℕ) → package_fault b ≡ None → IsFaultless b
faultless b none =
    let first = none_or (header_fault b (length b)) (option_or (exports_fault b) (relocs_fault b)) none in
    let second = none_or (exports_fault b) (relocs_fault b) first.1 in
    record {
      header = good_header b first.0;
      exports = λ i lt. no_fault (export_fault b) (header_of b).exports i second.0 lt;
      relocs = λ i lt. no_fault (reloc_fault b) (header_of b).relocs i second.1 lt;
    }

-- faultless bytes are the spelling of what they say
pub spelled : (b : List ℕ) → AreBytes b → package_fault b ≡ None → b ≡ spelling (component_of b)
spelled b bytes none =
    let h = header_of b in
    let f = faultless b none in
    let good = f.header in
    let exports = entries export_bytes (λ i. export_of (raw_export b i)) b (exports_at h) 6 h.exports (λ i lt. export_there b i bytes good.whole lt (f.exports i lt)) in
    let relocs = entries reloc_bytes (λ i. reloc_of (raw_reloc b i)) b (relocs_at h) 8 h.relocs (λ i lt. reloc_there b i bytes good.whole lt (f.relocs i lt)) in
    let nothing : drop (total_of h) b ≡ [] = drop_all (total_of h) b (omega (arith, good.whole)) in
    let code = drop_split b 32 (32 + h.code) (omega arith) in
    let init = drop_split b (32 + h.code) (exports_at h) (omega arith) in
    let head = drop_split b 0 32 (omega arith) in
    let c = component_of b in
    head ∙ ap₂ (λ (x y : List ℕ). x ++ y) (sym (header_there b bytes good))
    (code ∙ ap (λ (y : List ℕ). c.code ++ y) (init ∙ ap (λ (y : List ℕ). c.init ++ y) (exports ∙ ap (λ (y : List ℕ). flat_map export_bytes c.exports ++ y)
    (relocs ∙ ap (λ (y : List ℕ). flat_map reloc_bytes c.relocs ++ y) nothing ∙ append-nil (flat_map reloc_bytes c.relocs)))))
