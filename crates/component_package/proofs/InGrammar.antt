-- What faultless bytes say is a component of the grammar.
use Rattle.std.proofs.Common.{◌≡◌, ◌⊎◌, ℕ, zero, suc, ◌+◌, ◌-◌, ◌*◌, ◌%◌, ◌<◌, ◌≤◌, Bool, true, false, cond, eqb, None, List, [], ◌∷◌, ◌++◌, length, get_or, replicate, refl, sym, ap, subst, ◌∙◌, inl, inr, arith, slice_range}
use Rattle.std.specs.Prelude.{not, ◌||◌, ◌&&◌, nat_le, bit_and, IsTrue}
use Rattle.std.specs.List.{list_all}
use Rattle.std.specs.Int.{w16}
use Rattle.std.proofs.Math.Facts.{sfits_to_z}
use Rattle.std.proofs.lemmas.Bool.{and_parts, or_cases, leb-true, ltb-true, eqb-true}
use Rattle.std.proofs.lemmas.Grind.{same_number_lists}
use Rattle.avr_reloc.specs.Kind.{kind_of, shape_of, width_of, mask_of, is_instruction}
use Rattle.avr_reloc.specs.declared.kind.Shape.{Shape}
use Rattle.avr_reloc.specs.declared.kind.Shape.TheVariants as shapes
use Rattle.avr_reloc.specs.Field.{AreBytes, HasZeroValue, masked}
use Rattle.avr_reloc.proofs.Fixups.{AreBytes-slice, length-field, get_or-slice}
use Rattle.component_package.specs.declared.part.Export.{Export}
use Rattle.component_package.specs.declared.part.Header.{Header}
use Rattle.component_package.specs.declared.part.Reloc.{Reloc}
use Rattle.component_package.specs.packages.Numbers.{u16_at}
use Rattle.component_package.specs.packages.Component.{Component}
use Rattle.component_package.specs.packages.Reading.{header_of, exports_at, relocs_at, export_of, raw_export, symbol_before, reloc_width, reloc_end, is_inside, field_at, reloc_of, raw_reloc, reloc_before, raw_field, package_fault, component_of}
use Rattle.component_package.specs.packages.Grammar.{IsExport, ExportsRise, part_of_reloc, IsReloc, position_in, RelocsRise, IsComponent, Spells}
use Rattle.component_package.proofs.Lists.{is_zero, all_zeros, Rises, rises_list, free_at, all_of_list}
use Rattle.component_package.proofs.HeaderLemmas.{parts_have_lengths}
use Rattle.component_package.proofs.Spelled.{good_export, IsGoodReloc, good_reloc, IsFaultless, faultless, spelled}

-- ---- numbers and slices

-- two bytes are a number of 16 bits
u16_fits : (b : List ℕ) (at : ℕ) → AreBytes b → u16_at b at < 65536
u16_fits b at bytes = omega (arith, bytes at, bytes (at + 1))

-- a slice of a slice
pub slice_slice : (b : List ℕ) (low w i n : ℕ) → low + w ≤ length b → i + n ≤ w
    → slice_range (slice_range b low (low + w)) i (i + n) ≡ slice_range b (low + i) (low + i + n)
slice_slice b low w i n within inside =
    let outer = length-field b low w within in
    let inner : length (slice_range (slice_range b low (low + w)) i (i + n)) ≡ n = length-field (slice_range b low (low + w)) i n (omega arith) in
    let same : length (slice_range b (low + i) (low + i + n)) ≡ n = length-field b (low + i) n (omega arith) in
    same_number_lists (slice_range (slice_range b low (low + w)) i (i + n)) (slice_range b (low + i) (low + i + n)) (inner ∙ sym same)
    (λ k lt. get_or-slice (slice_range b low (low + w)) i (i + n) k (omega arith) ∙ get_or-slice b low (low + w) (i + k) (omega arith)
    ∙ ap (λ j. get_or b j 0) (omega arith) ∙ sym (get_or-slice b (low + i) (low + i + n) k (omega arith)))

-- ---- value bits

-- what is clear with more bytes behind is clear
clear_front : (q more mask : List ℕ) → list_all is_zero (masked (q ++ more) mask) ≡ true → list_all is_zero (masked q mask) ≡ true
clear_front [] more mask e = refl
clear_front (x ∷ q) more [] e = refl
clear_front (x ∷ q) more (m ∷ mask) e =
    let both = and_parts (is_zero (bit_and x m)) (list_all is_zero (masked (q ++ more) mask)) e in
    rw both.0 (clear_front q more mask both.1)

-- a field under its mask keeps its length
length-masked : (q mask : List ℕ) → length q ≤ length mask → length (masked q mask) ≡ length q
length-masked [] mask le = refl
length-masked (x ∷ q) [] le = absurd (omega arith)
length-masked (x ∷ q) (m ∷ mask) le = ap suc (length-masked q mask (omega arith))

-- a field has one to four bytes, and its mask has four
pub record IsWidth (s : Shape) : Type 0 where
  pub some : 1 ≤ width_of s
  pub four : width_of s ≤ 4
  pub mask : length (mask_of s) ≡ 4

-- so it is of each shape
pub widths : (s : Shape) → IsWidth s
widths shapes.Byte = record { some = omega arith; four = omega arith; mask = refl }
widths shapes.Word = record { some = omega arith; four = omega arith; mask = refl }
widths shapes.Long = record { some = omega arith; four = omega arith; mask = refl }
widths shapes.Immediate = record { some = omega arith; four = omega arith; mask = refl }
widths shapes.Branch = record { some = omega arith; four = omega arith; mask = refl }
widths shapes.Jump = record { some = omega arith; four = omega arith; mask = refl }
widths shapes.Call = record { some = omega arith; four = omega arith; mask = refl }
widths shapes.Displacement = record { some = omega arith; four = omega arith; mask = refl }
widths shapes.Adiw = record { some = omega arith; four = omega arith; mask = refl }

-- a field that the reader finds clear has value bits that are zeros
zero_value : (s : Shape) (q more : List ℕ) → length q ≡ width_of s → list_all is_zero (masked (q ++ more) (mask_of s)) ≡ true → HasZeroValue s q
zero_value s q more wide e =
    let w = widths s in
    let long = length-masked q (mask_of s) (omega (arith, w.four, w.mask, wide)) in
    all_zeros (masked q (mask_of s)) (clear_front q more (mask_of s) e) ∙ ap (λ n. replicate n 0) (long ∙ wide)

-- ---- tests that came out true

-- a test that is wanted only where x holds
if_set : (x y : Bool) → (not x || y) ≡ true → IsTrue x → y ≡ true
if_set true y e set = e
if_set false y e set = absurd cc

-- an offset that is wanted even where x holds
aligned_says : (x : Bool) (n : ℕ) → (not x || eqb (n % 2) 0) ≡ true → IsTrue x → n % 2 ≡ 0
aligned_says x n e set = eqb-true (n % 2) 0 (if_set x (eqb (n % 2) 0) e set)

-- a target is low or a symbol
target_says : (t : ℕ) (weak : Bool) → (nat_le 16 t || (nat_le t 10 && not weak)) ≡ true → (t ≤ 10) ⊎ (16 ≤ t)
target_says t weak e = elim (or_cases _ _ e) [ inl high ↦ inr (leb-true 16 t high) | inr low ↦ inl (leb-true t 10 (and_parts _ _ low).0) ]

-- a weak target is a symbol
weak_says : (t : ℕ) (weak : Bool) → (nat_le 16 t || (nat_le t 10 && not weak)) ≡ true → IsTrue weak → 16 ≤ t
weak_says t false e set = absurd cc
weak_says t true e set = elim (or_cases _ _ e) [ inl high ↦ leb-true 16 t high | inr low ↦ (let off : false ≡ true = (and_parts (nat_le t 10) false low).1 in absurd cc) ]

-- ---- order

-- symbols rise as the lists do
exports_rise : (low : ℕ) (es : List Export) → Rises (λ e. e.symbol) (λ e. e.symbol + 1) low es → ExportsRise low es
exports_rise low [] rise = tt
exports_rise low (e ∷ es) rise = (rise.0, exports_rise (e.symbol + 1) es rise.1)

-- and so do relocations
relocs_rise : (c : Component) (low : ℕ) (rs : List Reloc) → Rises (position_in c) (λ r. position_in c r + reloc_width r) low rs → RelocsRise c low rs
relocs_rise c low [] rise = tt
relocs_rise c low (r ∷ rs) rise = (rise.0, relocs_rise c (position_in c r + reloc_width r) rs rise.1)

-- an end in its part, by numbers: p says that the former field stands in data, q that the next one does
behind_by_numbers : (p q : Bool) (code init a w b : ℕ) → a + w ≤ cond p init code → cond p (q && nat_le (a + w) b) (q || nat_le (a + w) b) ≡ true
    → cond p code 0 + a + w ≤ cond q code 0 + b
behind_by_numbers true true code init a w b inside e = let le = leb-true (a + w) b e in omega arith
behind_by_numbers true false code init a w b inside e = absurd cc
behind_by_numbers false true code init a w b inside e = omega arith
behind_by_numbers false false code init a w b inside e = let le = leb-true (a + w) b e in omega arith

-- ---- exports and relocations

-- the length of the part that p names
by_case : (p : Bool) (c : Component) → length (cond p c.init c.code) ≡ cond p (length c.init) (length c.code)
by_case true c = refl
by_case false c = refl

-- the length of the part that a relocation stands in
pub length_of_part : (c : Component) (r : Reloc) → length (part_of_reloc c r) ≡ cond r.in_init (length c.init) (length c.code)
length_of_part c r = by_case r.in_init c

-- the export i that faultless bytes say
export_sound : (b : List ℕ) → AreBytes b → IsFaultless b → (i : ℕ) → i < (header_of b).exports → IsExport (component_of b) (export_of (raw_export b i))
export_sound b bytes f i lt =
    let raw = raw_export b i in
    let at = exports_at (header_of b) + 6 * i in
    let good = good_export (header_of b) (symbol_before b i) i raw (f.exports i lt) in
    let parts = parts_have_lengths b f.header.whole in
    record {
      symbol = u16_fits raw 0 (AreBytes-slice b at (at + 6) bytes);
      value = rw parts good.inside;
    }

-- where a symbol may begin is behind the symbol before
above_free : (b : List ℕ) → IsFaultless b → (i : ℕ) → i < (header_of b).exports
    → free_at (λ (e : Export). e.symbol + 1) 16 (λ i. export_of (raw_export b i)) i ≤ (export_of (raw_export b i)).symbol
above_free b f zero lt = (good_export (header_of b) None 0 (raw_export b 0) (f.exports 0 lt)).symbol
above_free b f (suc i) lt =
    let good = good_export (header_of b) (symbol_before b (suc i)) (suc i) (raw_export b (suc i)) (f.exports (suc i) lt) in
    let rises = ltb-true (u16_at (raw_export b i) 0) (u16_at (raw_export b (suc i)) 0) good.rises in
    omega arith

-- the relocation i of faultless bytes
good_at : (b : List ℕ) → IsFaultless b → (i : ℕ) → i < (header_of b).relocs
    → let raw = raw_reloc b i in IsGoodReloc (header_of b) (reloc_before b i) raw (raw_field b (reloc_of raw)) (kind_of (get_or raw 3 0)) (reloc_of raw)
good_at b f i lt = let raw = raw_reloc b i in good_reloc (header_of b) (reloc_before b i) i raw (raw_field b (reloc_of raw)) (f.relocs i lt)

-- a field that the reader finds inside lies in its part
inside_part : (b : List ℕ) → IsFaultless b → (r : Reloc) → is_inside (header_of b) r ≡ true → reloc_end r ≤ length (part_of_reloc (component_of b) r)
inside_part b f r e =
    let parts = parts_have_lengths b f.header.whole in
    let le = leb-true (reloc_end r) (cond r.in_init (header_of b).init (header_of b).code) e in
    let code = ap (λ (h : Header). h.code) parts in
    let init = ap (λ (h : Header). h.init) parts in
    rw (length_of_part (component_of b) r, code, init) le

-- the field's bytes in its part, by numbers
pub part_slice : (p : Bool) (b : List ℕ) (code init at w : ℕ) → 32 + code + init ≤ length b → at + w ≤ cond p init code
    → slice_range (cond p (slice_range b (32 + code) (32 + code + init)) (slice_range b 32 (32 + code))) at (at + w) ≡ slice_range b (32 + cond p code 0 + at) (32 + cond p code 0 + at + w)
part_slice true b code init at w whole inside = slice_slice b (32 + code) init at w whole inside
part_slice false b code init at w whole inside =
    slice_slice b 32 code at w (omega arith) inside ∙ ap (λ n. slice_range b n (n + w)) (omega arith)

-- the field's end in the package, by numbers
end_within : (p : Bool) (code init at w n : ℕ) → 32 + code + init ≤ n → at + w ≤ cond p init code → 32 + cond p code 0 + at + w ≤ n
end_within true code init at w n whole inside = omega arith
end_within false code init at w n whole inside = omega arith

-- the relocation i that faultless bytes say
reloc_sound : (b : List ℕ) → AreBytes b → IsFaultless b → (i : ℕ) → i < (header_of b).relocs → IsReloc (component_of b) (reloc_of (raw_reloc b i))
reloc_sound b bytes f i lt =
    let h = header_of b in
    let raw = raw_reloc b i in
    let r = reloc_of raw in
    let at = relocs_at h + 8 * i in
    let raw_bytes : AreBytes raw = AreBytes-slice b at (at + 8) bytes in
    let good = good_at b f i lt in
    let le = leb-true (reloc_end r) (cond r.in_init h.init h.code) good.inside in
    let there = part_slice r.in_init b h.code h.init r.offset (reloc_width r) (omega (arith, f.header.whole)) le in
    let wide : length (slice_range b (field_at h r) (field_at h r + reloc_width r)) ≡ reloc_width r = length-field b (field_at h r) (reloc_width r) (end_within r.in_init h.code h.init r.offset (reloc_width r) (length b) (omega (arith, f.header.whole)) le) in
    record {
      inside = inside_part b f r good.inside;
      aligned = aligned_says (is_instruction (shape_of r.kind)) r.offset good.aligned;
      target = target_says r.target r.weak good.target;
      weak = weak_says r.target r.weak good.target;
      small = u16_fits raw 4 raw_bytes;
      addend = sfits_to_z {w = w16} {n = u16_at raw 6} (record { fits = u16_fits raw 6 raw_bytes });
      clear = rw there (zero_value (shape_of r.kind) (slice_range b (field_at h r) (field_at h r + reloc_width r)) (replicate (4 - reloc_width r) 0) wide good.clear);
    }

-- a field that comes behind another begins where it may
behind_free : (b : List ℕ) → IsFaultless b → (i : ℕ) → i < (header_of b).relocs
    → let c = component_of b in free_at (λ (r : Reloc). position_in c r + reloc_width r) 0 (λ i. reloc_of (raw_reloc b i)) i ≤ position_in c (reloc_of (raw_reloc b i))
behind_free b f zero lt = omega arith
behind_free b f (suc i) lt =
    let h = header_of b in
    let former = reloc_of (raw_reloc b i) in
    let r = reloc_of (raw_reloc b (suc i)) in
    let before = good_at b f i (omega arith) in
    let good = good_at b f (suc i) lt in
    let code : length (component_of b).code ≡ h.code = ap (λ (h : Header). h.code) (parts_have_lengths b f.header.whole) in
    rw code (behind_by_numbers former.in_init r.in_init h.code h.init former.offset (reloc_width former) r.offset (leb-true (reloc_end former) (cond former.in_init h.init h.code) before.inside) good.behind)

-- ---- the whole

-- what faultless bytes say is a component
pub sound : (b : List ℕ) → AreBytes b → package_fault b ≡ None → IsComponent (component_of b)
sound b bytes none =
    let h = header_of b in
    let c = component_of b in
    let f = faultless b none in
    let good = f.header in
    let parts = parts_have_lengths b good.whole in
    record {
      component = u16_fits b 4 bytes;
      version = u16_fits b 6 bytes;
      code = AreBytes-slice b 32 (32 + h.code) bytes;
      init = AreBytes-slice b (32 + h.code) (exports_at h) bytes;
      even_code = ap (λ (k : Header). k.code % 2) parts ∙ good.even_code;
      even_init = ap (λ (k : Header). k.init % 2) parts ∙ good.even_init;
      even_bss = good.even_bss;
      bss = u16_fits b 12 bytes;
      short = subst (λ (x : List ℕ). length x ≤ 9984) (spelled b bytes none) good.small;
      exports = all_of_list (IsExport c) (λ i. export_of (raw_export b i)) h.exports (export_sound b bytes f);
      export_order = exports_rise 16 c.exports (rises_list (λ e. e.symbol) (λ e. e.symbol + 1) 16 (λ i. export_of (raw_export b i)) h.exports (above_free b f));
      relocs = all_of_list (IsReloc c) (λ i. reloc_of (raw_reloc b i)) h.relocs (reloc_sound b bytes f);
      reloc_order = relocs_rise c 0 c.relocs (rises_list (position_in c) (λ r. position_in c r + reloc_width r) 0 (λ i. reloc_of (raw_reloc b i)) h.relocs (behind_free b f));
    }

-- faultless bytes spell what they say
pub spells : (b : List ℕ) → AreBytes b → package_fault b ≡ None → Spells b (component_of b)
spells b bytes none = record { component = sound b bytes none; bytes = spelled b bytes none }
