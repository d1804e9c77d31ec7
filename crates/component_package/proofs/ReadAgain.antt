-- What is spelled is read again.
use Rattle.std.proofs.Common.{◌≡◌, ◌⊎◌, ℕ, zero, suc, ◌+◌, ◌-◌, ◌*◌, ◌/◌, ◌%◌, ◌<◌, ◌≤◌, Bool, true, false, cond, eqb, Option, Some, None, Ok, Err, List, [], ◌∷◌, ◌++◌, length, get_or, replicate, refl, sym, ap, ◌∙◌, inl, inr, arith, slice_range, length-append, append_assoc}
use Rattle.std.specs.Prelude.{slice_get, not, ◌||◌, ◌&&◌, nat_le, nat_lt, bit_and, IsTrue, FitsSigned}
use Rattle.std.specs.List.{flat_map, list_all}
use Rattle.std.specs.Result.{result_err}
use Rattle.std.specs.Int.{w16, cast_unsigned}
use Rattle.std.proofs.lemmas.Int.{to_z-of_z}
use Rattle.std.proofs.lemmas.Nat.{and_le_l}
use Rattle.std.proofs.lemmas.Bool.{le-leb, le-ltb, lt-ltb, eq-eqb, and_parts}
use Rattle.std.proofs.lemmas.List.{append-nil, take_at, drop_at}
use Rattle.std.proofs.lemmas.Option.{slice_get-get_or, slice_get_within}
use Rattle.avr_reloc.specs.declared.kind.RelocType.{RelocType}
use Rattle.avr_reloc.specs.Kind.{shape_of, mask_of, is_instruction}
use Rattle.avr_reloc.specs.Field.{masked}
use Rattle.avr_reloc.proofs.Numbers.{kind_of-number}
use Rattle.component_package.specs.declared.part.Export.{Export}
use Rattle.component_package.specs.declared.part.Reloc.{Reloc}
use Rattle.component_package.specs.declared.part.Header.{Header}
use Rattle.component_package.specs.declared.part.Place.{Place}
use Rattle.component_package.specs.declared.part.Place.TheVariants as places
use Rattle.component_package.specs.declared.fault.PackageFault.TheVariants.{RelocPlace, RelocOrder, Target, FieldNotZero}
use Rattle.component_package.specs.packages.Numbers.{u16_at}
use Rattle.component_package.specs.packages.Component.{Component, export_bytes, reloc_bytes, header_bytes, spelling, number_of_place}
use Rattle.component_package.specs.packages.Reading.{header_of, header_of_component, exports_at, relocs_at, total_of, header_fault, has_magic, is_blank, is_even, has_even_lengths, has_its_length, export_of, raw_export, first_fault, symbol_before, export_fault, check_export_of, is_above, length_of, place_of, reloc_width, reloc_end, has_place_byte, has_place, is_inside, is_aligned, is_behind, has_target, is_clear, reloc_with, reloc_in, check_reloc_of, reloc_of, raw_reloc, reloc_before, field_at, raw_field, reloc_fault, package_fault, list_of, component_of}
use Rattle.component_package.specs.packages.Grammar.{IsExport, ExportsRise, part_of_reloc, IsReloc, position_in, RelocsRise, IsComponent}
use Rattle.component_package.proofs.First.{none_first}
use Rattle.component_package.proofs.Lists.{is_zero, entry_in, length-entries, list_of_entries, all_at, Rises, rises_next, rises_above}
use Rattle.component_package.proofs.InGrammar.{part_slice, length_of_part, widths}
use Rattle.component_package.proofs.Steps.{faultless_parts}

-- ---- the header

-- a number is what its two bytes say
two : (n : ℕ) → n % 256 + 256 * (n / 256) ≡ n
two n = omega arith

-- the header of a spelling
pub header_again : (c : Component) → header_of (spelling c) ≡ header_of_component c
header_again c = rw (two c.component, two c.version, two (length c.code), two (length c.init), two c.bss, two (length c.exports), two (length c.relocs)) refl

-- how long a spelling is
pub length-spelling : (c : Component) → length (spelling c) ≡ total_of (header_of_component c)
length-spelling c =
    let exports = length-entries export_bytes 6 (λ e. refl) c.exports in
    let relocs = length-entries reloc_bytes 8 (λ r. refl) c.relocs in
    let tail = length-append (flat_map export_bytes c.exports) (flat_map reloc_bytes c.relocs) in
    let init = length-append c.init (flat_map export_bytes c.exports ++ flat_map reloc_bytes c.relocs) in
    let code = length-append c.code (c.init ++ (flat_map export_bytes c.exports ++ flat_map reloc_bytes c.relocs)) in
    let whole = length-append (header_bytes c) (c.code ++ (c.init ++ (flat_map export_bytes c.exports ++ flat_map reloc_bytes c.relocs))) in
    omega (arith, exports, relocs, tail, init, code, whole)

-- a header with nothing wrong
header_passes : (b : List ℕ) (n : ℕ) → nat_lt n 32 ≡ false → has_magic b ≡ true → is_blank b ≡ true → has_even_lengths (header_of b) ≡ true
    → has_its_length (header_of b) n ≡ true → header_fault b n ≡ None
header_passes b n short magic blank even size = rw (short, magic, blank, even, size) refl

-- three even lengths pass their test
even_passes : (a b c : ℕ) → a % 2 ≡ 0 → b % 2 ≡ 0 → c % 2 ≡ 0 → (is_even a && is_even b && is_even c) ≡ true
even_passes a b c p q r = rw (p, q, r) refl

-- a length that is the wanted one passes its test
length_passes : (n m : ℕ) → n ≡ m → n ≤ 9984 → (eqb n m && nat_le n 9984) ≡ true
length_passes n m same small = rw (eq-eqb n m same, le-leb n 9984 small) refl

-- nothing is wrong with the header of a spelling
header_sound : (c : Component) → IsComponent c → header_fault (spelling c) (length (spelling c)) ≡ None
header_sound c w =
    let long : 32 ≤ length (spelling c) = omega (arith, length-spelling c) in
    header_passes (spelling c) (length (spelling c)) (le-ltb (length (spelling c)) 32 long) refl refl
    (ap has_even_lengths (header_again c) ∙ even_passes (length c.code) (length c.init) c.bss w.even_code w.even_init w.even_bss)
    (ap (λ (h : Header). has_its_length h (length (spelling c))) (header_again c)
    ∙ length_passes (length (spelling c)) (total_of (header_of_component c)) (length-spelling c) w.short)

-- ---- the parts

-- the code of a spelling, and the data
code_again : (c : Component) → slice_range (spelling c) 32 (32 + length c.code) ≡ c.code
code_again c =
    let rest = c.init ++ (flat_map export_bytes c.exports ++ flat_map reloc_bytes c.relocs) in
    let n : 32 + length c.code - 32 ≡ length c.code = omega arith in
    rw (n, drop_at (header_bytes c) (c.code ++ rest) 32 refl) (take_at c.code rest (length c.code) refl)

init_again : (c : Component) → slice_range (spelling c) (32 + length c.code) (32 + length c.code + length c.init) ≡ c.init
init_again c =
    let rest = flat_map export_bytes c.exports ++ flat_map reloc_bytes c.relocs in
    let grouped : spelling c ≡ (header_bytes c ++ c.code) ++ (c.init ++ rest) = sym (append_assoc (header_bytes c) c.code (c.init ++ rest)) in
    let n : 32 + length c.code + length c.init - (32 + length c.code) ≡ length c.init = omega arith in
    rw (n, grouped, drop_at (header_bytes c ++ c.code) (c.init ++ rest) (32 + length c.code) (length-append (header_bytes c) c.code)) (take_at c.init rest (length c.init) refl)

-- the bytes of export i
raw_export_again : (c : Component) (i : ℕ) (e : Export) → slice_get c.exports i ≡ Some e → raw_export (spelling c) i ≡ export_bytes e
raw_export_again c i e here =
    let front = header_bytes c ++ (c.code ++ c.init) in
    let back = flat_map reloc_bytes c.relocs in
    let rest = flat_map export_bytes c.exports ++ back in
    let grouped : spelling c ≡ front ++ rest = ap (λ (x : List ℕ). header_bytes c ++ x) (sym (append_assoc c.code c.init rest))
    ∙ sym (append_assoc (header_bytes c) (c.code ++ c.init) rest) in
    let long : exports_at (header_of (spelling c)) ≡ length front = ap exports_at (header_again c)
    ∙ omega (arith, length-append (header_bytes c) (c.code ++ c.init), length-append c.code c.init) in
    ap (λ n. slice_range (spelling c) (n + 6 * i) (n + 6 * i + 6)) long
    ∙ ap (λ (x : List ℕ). slice_range x (length front + 6 * i) (length front + 6 * i + 6)) grouped
    ∙ entry_in export_bytes 6 (λ x. refl) c.exports front back i e here

-- the bytes of relocation i
raw_reloc_again : (c : Component) (i : ℕ) (r : Reloc) → slice_get c.relocs i ≡ Some r → raw_reloc (spelling c) i ≡ reloc_bytes r
raw_reloc_again c i r here =
    let exports = flat_map export_bytes c.exports in
    let relocs = flat_map reloc_bytes c.relocs in
    let front = header_bytes c ++ (c.code ++ (c.init ++ exports)) in
    let grouped : spelling c ≡ front ++ (relocs ++ []) =
    ap (λ (x : List ℕ). header_bytes c ++ (c.code ++ (c.init ++ (exports ++ x)))) (sym (append-nil relocs))
    ∙ ap (λ (x : List ℕ). header_bytes c ++ (c.code ++ x)) (sym (append_assoc c.init exports (relocs ++ [])))
    ∙ ap (λ (x : List ℕ). header_bytes c ++ x) (sym (append_assoc c.code (c.init ++ exports) (relocs ++ [])))
    ∙ sym (append_assoc (header_bytes c) (c.code ++ (c.init ++ exports)) (relocs ++ [])) in
    let long : relocs_at (header_of (spelling c)) ≡ length front =
    ap relocs_at (header_again c) ∙ omega (arith, length-append (header_bytes c) (c.code ++ (c.init ++ exports)), length-append c.code (c.init ++ exports), length-append c.init exports, length-entries export_bytes 6 (λ e. refl) c.exports) in
    ap (λ n. slice_range (spelling c) (n + 8 * i) (n + 8 * i + 8)) long
    ∙ ap (λ (x : List ℕ). slice_range x (length front + 8 * i) (length front + 8 * i + 8)) grouped
    ∙ entry_in reloc_bytes 8 (λ x. refl) c.relocs front [] i r here

-- ---- exports

-- the byte k says this place and weakness
record IsPlaceByte (p : Place) (w : Bool) (k : ℕ) : Type 0 where
  pub place : place_of (k % 128) ≡ Some p
  pub weak : nat_le 128 k ≡ w

-- the byte that an export spells says them
place_again : (p : Place) (weak : Bool) → IsPlaceByte p weak (number_of_place p + cond weak 128 0)
place_again places.Code false = record { place = refl; weak = refl }
place_again places.Code true = record { place = refl; weak = refl }
place_again places.Init false = record { place = refl; weak = refl }
place_again places.Init true = record { place = refl; weak = refl }
place_again places.Bss false = record { place = refl; weak = refl }
place_again places.Bss true = record { place = refl; weak = refl }
place_again places.Absolute false = record { place = refl; weak = refl }
place_again places.Absolute true = record { place = refl; weak = refl }

-- an export's bytes say it
export_again : (e : Export) → export_of (export_bytes e) ≡ e
export_again e = let p = place_again e.place e.weak in rw (two e.symbol, two e.value, p.place, p.weak) refl

-- and nothing is wrong with them
check_export_again : (h : Header) (before : Option ℕ) (i : ℕ) (e : Export) → 16 ≤ e.symbol → is_above before e.symbol ≡ true → e.value ≤ length_of h e.place
    → check_export_of h before i (export_bytes e) ≡ Ok e
check_export_again h before i e floor rises inside =
    let p = place_again e.place e.weak in
    rw (two e.symbol, le-leb 16 e.symbol floor, rises, p.place, two e.value, le-leb e.value (length_of h e.place) inside, p.weak) (rw (two e.symbol) refl)

-- symbols that rise, as a list that rises
symbols_rise : (low : ℕ) (es : List Export) → ExportsRise low es → Rises (λ e. e.symbol) (λ e. e.symbol + 1) low es
symbols_rise low [] rise = tt
symbols_rise low (e ∷ es) rise = (rise.0, symbols_rise (e.symbol + 1) es rise.1)

-- a symbol is above the one before
symbol_above : (c : Component) → IsComponent c → (i : ℕ) (e : Export) → slice_get c.exports i ≡ Some e → is_above (symbol_before (spelling c) i) e.symbol ≡ true
symbol_above c w zero e here = refl
symbol_above c w (suc i) e here =
    let within = slice_get_within c.exports (suc i) e here in
    let former = get_or c.exports i e in
    let there : slice_get c.exports i ≡ Some former = slice_get-get_or c.exports i e (omega (arith, within)) in
    let rises = rises_next (λ (x : Export). x.symbol) (λ (x : Export). x.symbol + 1) 16 c.exports i former e (symbols_rise 16 c.exports w.export_order) there here in
    let symbol : u16_at (raw_export (spelling c) i) 0 ≡ former.symbol = ap (λ (x : List ℕ). u16_at x 0) (raw_export_again c i former there)
    ∙ two former.symbol in
    ap (λ n. nat_lt n e.symbol) symbol ∙ lt-ltb former.symbol e.symbol (omega (arith, rises))

-- nothing is wrong with export i
export_faultless : (c : Component) → IsComponent c → (i : ℕ) (e : Export) → slice_get c.exports i ≡ Some e → export_fault (spelling c) i ≡ None
export_faultless c w i e here =
    let s = spelling c in
    let is = all_at (IsExport c) c.exports i e w.exports here in
    let floor = rises_above (λ (x : Export). x.symbol) (λ (x : Export). x.symbol + 1) (λ x. omega arith) 16 c.exports i e (symbols_rise 16 c.exports w.export_order) here in
    ap (λ (h : Header). result_err (check_export_of h (symbol_before s i) i (raw_export s i))) (header_again c)
    ∙ ap (λ (raw : List ℕ). result_err (check_export_of (header_of_component c) (symbol_before s i) i raw)) (raw_export_again c i e here)
    ∙ ap result_err (check_export_again (header_of_component c) (symbol_before s i) i e floor (symbol_above c w i e here) is.value)

-- ---- relocations

-- the byte k says this part and weakness
record IsPartByte (p : Bool) (w : Bool) (k : ℕ) : Type 0 where
  pub below : nat_lt (k % 128) 2 ≡ true
  pub part : eqb (k % 128) 1 ≡ p
  pub weak : nat_le 128 k ≡ w

-- the byte that a relocation spells says them
part_again : (p weak : Bool) → IsPartByte p weak (cond p 1 0 + cond weak 128 0)
part_again false false = record { below = refl; part = refl; weak = refl }
part_again false true = record { below = refl; part = refl; weak = refl }
part_again true false = record { below = refl; part = refl; weak = refl }
part_again true true = record { below = refl; part = refl; weak = refl }

-- a relocation's bytes say it
reloc_again : (r : Reloc) → FitsSigned w16 r.addend → reloc_with (reloc_bytes r) r.kind ≡ r
reloc_again r fits =
    let p = part_again r.in_init r.weak in
    rw (two r.offset, two r.target, two (cast_unsigned w16 r.addend), to_z-of_z w16 r.addend fits, p.part, p.weak) refl

-- and the decoder finds its type there
reloc_said_again : (r : Reloc) → FitsSigned w16 r.addend → reloc_of (reloc_bytes r) ≡ r
reloc_said_again r fits = rw (kind_of-number r.kind) (reloc_again r fits)

-- positions that rise, as a list that rises
positions_rise : (c : Component) (low : ℕ) (rs : List Reloc) → RelocsRise c low rs → Rises (position_in c) (λ r. position_in c r + reloc_width r) low rs
positions_rise c low [] rise = tt
positions_rise c low (r ∷ rs) rise = (rise.0, positions_rise c (position_in c r + reloc_width r) rs rise.1)

-- a field in its part that begins behind another comes behind it, by numbers: p and q say which of the two stand in data
behind_again : (p q : Bool) (code init a w b v : ℕ) → a + w ≤ cond p init code → b + v ≤ cond q init code → 1 ≤ v → cond p code 0 + a + w ≤ cond q code 0 + b
    → cond p (q && nat_le (a + w) b) (q || nat_le (a + w) b) ≡ true
behind_again true true code init a w b v former inside some le = le-leb (a + w) b (omega arith)
behind_again true false code init a w b v former inside some le = absurd (omega arith)
behind_again false true code init a w b v former inside some le = refl
behind_again false false code init a w b v former inside some le = le-leb (a + w) b (omega arith)

-- a field is as far inside as the grammar says
end_in_part : (c : Component) (r : Reloc) → IsReloc c r → reloc_end r ≤ cond r.in_init (length c.init) (length c.code)
end_in_part c r is = rw (← length_of_part c r) is.inside

-- anything or true
or_true : (x : Bool) → (x || true) ≡ true
or_true true = refl
or_true false = refl

-- an offset that is even where x holds passes its test
aligned_again : (x : Bool) (n : ℕ) → (IsTrue x → n % 2 ≡ 0) → (not x || eqb (n % 2) 0) ≡ true
aligned_again true n even = rw (even refl) refl
aligned_again false n even = refl

-- a target that the grammar allows passes its test
target_again : (t : ℕ) (weak : Bool) → (t ≤ 10) ⊎ (16 ≤ t) → (IsTrue weak → 16 ≤ t) → (nat_le 16 t || (nat_le t 10 && not weak)) ≡ true
target_again t weak (inr high) w = rw (le-leb 16 t high) refl
target_again t true (inl low) w = rw (le-leb 16 t (w refl)) refl
target_again t false (inl low) w = rw (le-leb t 10 low) (or_true (nat_le 16 t))

-- ---- value bits

-- zeros are all zeros
replicate_zero : (n : ℕ) → list_all is_zero (replicate n 0) ≡ true
replicate_zero zero = refl
replicate_zero (suc n) = replicate_zero n

-- zeros are clear
zeros_clear : (n : ℕ) (mask : List ℕ) → list_all is_zero (masked (replicate n 0) mask) ≡ true
zeros_clear zero mask = refl
zeros_clear (suc n) [] = refl
zeros_clear (suc n) (m ∷ mask) =
    let none : bit_and 0 m ≡ 0 = omega (arith, and_le_l 0 m) in
    rw none (zeros_clear n mask)

-- and so are clear bytes with zeros behind
clear_again : (q : List ℕ) (n : ℕ) (mask : List ℕ) → list_all is_zero (masked q mask) ≡ true → list_all is_zero (masked (q ++ replicate n 0) mask) ≡ true
clear_again [] n mask e = zeros_clear n mask
clear_again (x ∷ q) n [] e = refl
clear_again (x ∷ q) n (m ∷ mask) e =
    let both = and_parts (is_zero (bit_and x m)) (list_all is_zero (masked q mask)) e in
    rw both.0 (clear_again q n mask both.1)

-- the bytes of a field in the package are those in its part
field_again : (c : Component) (r : Reloc) → IsReloc c r → raw_field (spelling c) r ≡ slice_range (part_of_reloc c r) r.offset (reloc_end r) ++ replicate (4 - reloc_width r) 0
field_again c r is =
    let s = spelling c in
    let w = reloc_width r in
    let there = part_slice r.in_init s (length c.code) (length c.init) r.offset w (omega (arith, length-spelling c)) (end_in_part c r is) in
    let parts = ap (λ (x : List ℕ). cond r.in_init x (slice_range s 32 (32 + length c.code))) (init_again c)
    ∙ ap (λ (x : List ℕ). cond r.in_init c.init x) (code_again c) in
    ap (λ (h : Header). let at = field_at h r in slice_range s at (at + w) ++ replicate (4 - w) 0) (header_again c)
    ∙ ap (λ (x : List ℕ). x ++ replicate (4 - w) 0) (sym there ∙ ap (λ (x : List ℕ). slice_range x r.offset (r.offset + w)) parts)

-- ---- nothing is wrong with a relocation

-- a relocation comes behind the one before
reloc_behind : (c : Component) → IsComponent c → (i : ℕ) (r : Reloc) → slice_get c.relocs i ≡ Some r → is_behind (reloc_before (spelling c) i) r ≡ true
reloc_behind c w zero r here = refl
reloc_behind c w (suc i) r here =
    let within = slice_get_within c.relocs (suc i) r here in
    let former = get_or c.relocs i r in
    let there : slice_get c.relocs i ≡ Some former = slice_get-get_or c.relocs i r (omega (arith, within)) in
    let f = all_at (IsReloc c) c.relocs i former w.relocs there in
    let is = all_at (IsReloc c) c.relocs (suc i) r w.relocs here in
    let rises = rises_next (position_in c) (λ (x : Reloc). position_in c x + reloc_width x) 0 c.relocs i former r (positions_rise c 0 c.relocs w.reloc_order) there here in
    let said : reloc_of (raw_reloc (spelling c) i) ≡ former = ap reloc_of (raw_reloc_again c i former there) ∙ reloc_said_again former f.addend in
    ap (λ (x : Reloc). is_behind (Some x) r) said
    ∙ behind_again former.in_init r.in_init (length c.code) (length c.init) former.offset (reloc_width former) r.offset (reloc_width r)
    (end_in_part c former f) (end_in_part c r is) (widths (shape_of r.kind)).some rises

-- checks that each pass, on a relocation that is what the bytes say
passes : (h : Header) (before : Option Reloc) (i : ℕ) (raw field : List ℕ) (kind : RelocType) (r : Reloc) → reloc_with raw kind ≡ r
    → has_place_byte raw ≡ true → is_inside h r ≡ true → is_aligned r ≡ true
    → is_behind before r ≡ true → has_target r ≡ true → is_clear kind field ≡ true → reloc_in h before i raw field (Some kind) ≡ Ok r
passes h before i raw field kind r said byte inside aligned behind target clear =
    ap (λ (x : Reloc). cond (not (has_place h raw x)) (Err (RelocPlace i)) (cond (not (is_behind before x)) (Err (RelocOrder i))
    (cond (not (has_target x)) (Err (Target i)) (cond (not (is_clear kind field)) (Err (FieldNotZero i)) (Ok x))))) said
    ∙ rw (byte, inside, aligned, behind, target, clear) refl

-- the checks pass a relocation that the grammar allows
check_reloc_again : (c : Component) (before : Option Reloc) (i : ℕ) (r : Reloc) (field : List ℕ) → IsReloc c r → is_behind before r ≡ true
    → is_clear r.kind field ≡ true
    → check_reloc_of (header_of_component c) before i (reloc_bytes r) field ≡ Ok r
check_reloc_again c before i r field is behind clear =
    let said = reloc_again r is.addend in
    let byte = (part_again r.in_init r.weak).below in
    let inside = le-leb (reloc_end r) (cond r.in_init (length c.init) (length c.code)) (end_in_part c r is) in
    let aligned = aligned_again (is_instruction (shape_of r.kind)) r.offset is.aligned in
    let target = target_again r.target r.weak is.target is.weak in
    rw (kind_of-number r.kind) (passes (header_of_component c) before i (reloc_bytes r) field r.kind r said byte inside aligned behind target clear)

-- nothing is wrong with relocation i
reloc_faultless : (c : Component) → IsComponent c → (i : ℕ) (r : Reloc) → slice_get c.relocs i ≡ Some r → reloc_fault (spelling c) i ≡ None
reloc_faultless c w i r here =
    let s = spelling c in
    let is = all_at (IsReloc c) c.relocs i r w.relocs here in
    let there = raw_reloc_again c i r here in
    let said = reloc_said_again r is.addend in
    let clear : is_clear r.kind (raw_field s r) ≡ true =
    ap (is_clear r.kind) (field_again c r is)
    ∙ clear_again (slice_range (part_of_reloc c r) r.offset (reloc_end r)) (4 - reloc_width r) (mask_of (shape_of r.kind)) (ap (list_all is_zero) is.clear ∙ replicate_zero (reloc_width r)) in
    ap (λ (h : Header). result_err (check_reloc_of h (reloc_before s i) i (raw_reloc s i) (raw_field s (reloc_of (raw_reloc s i))))) (header_again c)
    ∙ ap (λ (raw : List ℕ). result_err (check_reloc_of (header_of_component c) (reloc_before s i) i raw (raw_field s (reloc_of raw)))) there
    ∙ ap (λ (x : Reloc). result_err (check_reloc_of (header_of_component c) (reloc_before s i) i (reloc_bytes r) (raw_field s x))) said
    ∙ ap result_err (check_reloc_again c (reloc_before s i) i r (raw_field s r) is (reloc_behind c w i r here) clear)

-- ---- the whole

-- what holds of each element holds at each index
no_fault_at : {X F : Type 0} {o : Option F} (xs : List X) (i : ℕ) → i < length xs → ((x : X) → slice_get xs i ≡ Some x → o ≡ None) → o ≡ None
no_fault_at [] i lt each = absurd (omega arith)
no_fault_at (y ∷ ys) i lt each = each (get_or (y ∷ ys) i y) (slice_get-get_or (y ∷ ys) i y lt)

-- a package of a component has no fault
pub spelling_faultless : (c : Component) → IsComponent c → package_fault (spelling c) ≡ None
spelling_faultless c w =
    let s = spelling c in
    let exports = none_first (export_fault s) (length c.exports)
    (λ i lt. no_fault_at c.exports i lt (λ x here. export_faultless c w i x here)) in
    let relocs = none_first (reloc_fault s) (length c.relocs)
    (λ i lt. no_fault_at c.relocs i lt (λ x here. reloc_faultless c w i x here)) in
    faultless_parts s (header_sound c w)
    (ap (λ (h : Header). first_fault (export_fault s) h.exports) (header_again c) ∙ exports)
    (ap (λ (h : Header). first_fault (reloc_fault s) h.relocs) (header_again c) ∙ relocs)

-- a component as its bytes say it, by the numbers of a header
abbrev component_by : List ℕ → Header → Component
component_by b h = record {
  component = h.component;
  version = h.version;
  code = slice_range b 32 (32 + h.code);
  init = slice_range b (32 + h.code) (32 + h.code + h.init);
  bss = h.bss;
  exports = list_of (λ i. export_of (raw_export b i)) h.exports;
  relocs = list_of (λ i. reloc_of (raw_reloc b i)) h.relocs;
}

-- a package of a component says it
pub spelling_said : (c : Component) → IsComponent c → component_of (spelling c) ≡ c
spelling_said c w =
    let s = spelling c in
    let exports = list_of_entries (λ i. export_of (raw_export s i)) c.exports (λ i e here. ap export_of (raw_export_again c i e here) ∙ export_again e) in
    let relocs = list_of_entries (λ i. reloc_of (raw_reloc s i)) c.relocs
    (λ i r here. ap reloc_of (raw_reloc_again c i r here) ∙ reloc_said_again r (all_at (IsReloc c) c.relocs i r w.relocs here).addend) in
    ap (component_by s) (header_again c)
    ∙ ap (λ (x : List ℕ). record (component_by s (header_of_component c)) { code = x }) (code_again c)
    ∙ ap (λ (x : List ℕ). record c { init = x; exports = list_of (λ i. export_of (raw_export s i)) (length c.exports); relocs = list_of (λ i. reloc_of (raw_reloc s i)) (length c.relocs) }) (init_again c)
    ∙ ap (λ (x : List Export). record c { exports = x; relocs = list_of (λ i. reloc_of (raw_reloc s i)) (length c.relocs) }) exports
    ∙ ap (λ (x : List Reloc). record c { relocs = x }) relocs
