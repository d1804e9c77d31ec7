-- The package of an object without a fault is one that can be.
use Rattle.std.proofs.Common.{◌≡◌, ◌⊎◌, ℕ, suc, ◌+◌, ◌%◌, ◌<◌, ◌≤◌, ◌^◌, Bool, true, false, cond, Option, Some, None, List, [], ◌∷◌, length, map, refl, sym, ap, subst, ◌∙◌, inl, inr, arith, eqb, ltb, ℤ, pos, negsuc, w16, FitsSigned}
use Rattle.std.specs.Prelude.{T, not, ◌&&◌, ◌||◌, is_some, int_le, IsTrue}
use Rattle.std.specs.List.{All, AllByRecursion, filter}
use Rattle.std.proofs.Math.Facts.{sfits_lit}
use Rattle.std.proofs.lemmas.Bool.{eqb-true, leb-true, ltb-false}
use Rattle.std.proofs.lemmas.Bool.Decides.{nat_tests}
use Rattle.std.proofs.lemmas.List.{length-map}
use Rattle.avr_reloc.specs.Kind.{shape_of, is_instruction}
use Rattle.avr_reloc.specs.Field.{AreBytes}
use Rattle.avr_elf.specs.declared.constants.TheConstants.{UNDEF, ABS, COMMON}
use Rattle.avr_elf.specs.Object.{SymbolParts, Object}
use Rattle.avr_elf.specs.WellFormed.{IsWellFormed}
use Rattle.component_package.specs.declared.part.Place.{Place}
use Rattle.component_package.specs.declared.part.Place.TheVariants as places
use Rattle.component_package.specs.declared.part.Export.{Export}
use Rattle.component_package.specs.packages.Component.{Component}
use Rattle.component_package.specs.packages.Reading.{header_of_component, length_of}
use Rattle.component_package.specs.packages.Manifest.{AreDistinct}
use Rattle.component_package.specs.packages.Grammar.{IsExport, ExportsRise, IsReloc, position_in, RelocsRise, IsComponent}
use Rattle.component_package.proofs.ReadAgain.{length-spelling}
use Rattle.object_packer.specs.declared.fault.PackFault.{PackFault}
use Rattle.object_packer.specs.declared.fault.PackFault.TheVariants as faults
use Rattle.object_packer.specs.declared.layout.Home.{Home}
use Rattle.object_packer.specs.declared.kept.Kept.{Kept}
use Rattle.object_packer.specs.Sections.{symbol_at}
use Rattle.object_packer.specs.Parts.{is_in, part_length, part_bytes}
use Rattle.object_packer.specs.References.{is_local, symbol_home, outside_at, outside_of, linker_target, own_target, fixed, local_reference, global_reference, reference_of}
use Rattle.object_packer.specs.Relocations.{kept, ordered, kept_width}
use Rattle.object_packer.specs.Names.{is_exported, is_used, needs_number, exported, names, number_in}
use Rattle.object_packer.specs.Layout.{export_value}
use Rattle.object_packer.specs.Faults.{is_small, value_fault, name_fault, overlap_fault, pack_fault}
use Rattle.object_packer.specs.Packed.{stands_in, part_of, cleared, packed_code, packed_init, export_at, export_of, packed_exports, target_number, reloc_of, packed}
use Rattle.object_packer.proofs.First.{none_or}
use Rattle.object_packer.proofs.Sorting.{all_sorted, length_sorted, sorted_rises, sorted_keeps}
use Rattle.object_packer.proofs.Clearing.{length_cleared}
use Rattle.object_packer.proofs.Sound.{both, IsFaultless, faultless, short, even_room, IsKept, all_kept, symbol_is, symbol_fits, part_short, export_fits, length_part, exported_are}
use Rattle.object_packer.proofs.Elements.{all_so, all_both, all_map, all_passing, all_filter, all_in}
use Rattle.object_packer.proofs.Fields.{IsClear, all_clear, zero_value}
use Rattle.object_packer.proofs.Numbered.{occurs, number_all, number_once, among_names, exported_named, export_symbol, symbol_of, few, rise_strictly, rises_above}

-- ---- numbers of names

-- each name has a number of its own, of 16 or above
pub record IsNumbering (o : Object) (g : List ℕ → ℕ) : Type 0 where
  pub high : (name : List ℕ) → occurs name (names o) ≡ true → 16 ≤ g name
  pub small : (name : List ℕ) → occurs name (names o) ≡ true → g name < 2 ^ 16
  pub once : (a b : List ℕ) → occurs a (names o) ≡ true → occurs b (names o) ≡ true → g a ≡ g b → a ≡ b

from_all : (P : ℕ → Type 0) (xs : List ℕ) → All P xs → AllByRecursion P xs
from_all P [] all = tt
from_all P (x ∷ xs) all = (all 0 x (omega arith), from_all P xs (λ k d lt. all (suc k) d (omega (arith, lt))))

pub numbering : (o : Object) (numbers : List ℕ) → length numbers ≡ length (names o) → AreDistinct numbers → All (λ n. 16 ≤ n) numbers → All (λ n. n < 2 ^ 16) numbers
    → IsNumbering o (number_in (names o) numbers)
numbering o numbers count apart high small = record {
  high = λ name is. number_all (λ n. 16 ≤ n) (names o) numbers name count is (from_all (λ n. 16 ≤ n) numbers high);
  small = λ name is. number_all (λ n. n < 2 ^ 16) (names o) numbers name count is (from_all (λ n. n < 2 ^ 16) numbers small);
  once = λ a b is_a is_b same. number_once (names o) numbers a b count apart is_a is_b same;
}

-- ---- targets

pub record IsTarget (t : ℕ) (w : Bool) : Type 0 where
  pub target : (t ≤ 10) ⊎ (16 ≤ t)
  pub weak : IsTrue w → 16 ≤ t
  pub small : t < 2 ^ 16

low_target : (t : ℕ) → t ≤ 10 → IsTarget t false
low_target t le = record { target = inl le; weak = λ set. absurd cc; small = omega (arith, le) }

high_target : (t : ℕ) (weak : Bool) → 16 ≤ t → t < 2 ^ 16 → IsTarget t weak
high_target t weak le lt = record { target = inr le; weak = λ set. le; small = lt }

own_low : (p : Place) → own_target p ≤ 10
own_low places.Code = omega arith
own_low places.Init = omega arith
own_low places.Bss = omega arith
own_low places.Absolute = omega arith

linker_low : (name : List ℕ) (t : ℕ) → linker_target name ≡ Some t → t ≤ 10
linker_low name t e = from _ _ _ _ _ _ _ e
  where
    is : (n : ℕ) → n ≤ 10 → Some n ≡ Some t → t ≤ 10
    is n le e = let same : n ≡ t = cc in subst (λ (k : ℕ). k ≤ 10) same le

    from : (a b c d e f g : Bool) → cond a (Some 3) (cond b (Some 4) (cond c (Some 5) (cond d (Some 6) (cond e (Some 7) (cond f (Some 8) (cond g (Some 9) None)))))) ≡ Some t → t ≤ 10
    from true b c d e f g h = is 3 (omega arith) h
    from false true c d e f g h = is 4 (omega arith) h
    from false false true d e f g h = is 5 (omega arith) h
    from false false false true e f g h = is 6 (omega arith) h
    from false false false false true f g h = is 7 (omega arith) h
    from false false false false false true g h = is 8 (omega arith) h
    from false false false false false false true h = is 9 (omega arith) h
    from false false false false false false false h = absurd cc

-- a symbol that a relocation names is exported or undefined, unless it is local or its section is not in memory
there : (o : Object) (u a c d used : Bool) (n : ℕ) (h : Option Home) → c ≡ false → (d || a || c) ≡ true → outside_at o (cond (u || a || c || not d) None (Some n)) h ≡ None → used ≡ true
    → ((a || is_some h) || (u && used)) ≡ true
there o u a true d used n h e index outside f = absurd cc
there o u true false d used n h e index outside f = refl
there o true false false d false n h e index outside f = absurd cc
there o true false false d true n None e index outside f = refl
there o true false false d true n (Some home) e index outside f = refl
there o false false false false used n h e index outside f = absurd cc
there o false false false true used n None e index outside f = absurd cc
there o false false false true used n (Some home) e index outside f = refl

needs_when : (l k a u : Bool) → l ≡ false → k ≡ false → (a || u) ≡ true → (not l && not k && ((not l && a) || u)) ≡ true
needs_when true k a u p q e = absurd cc
needs_when false true a u p q e = absurd cc
needs_when false false a u p q e = e

not_common : (b : Bool) (f : PackFault) (rest : Option PackFault) → cond b (Some f) rest ≡ None → b ≡ false
not_common true f rest e = absurd cc
not_common false f rest e = refl

named_needs : (o : Object) → IsWellFormed o → IsFaultless o → (i : ℕ) → i < length o.symbols → is_local (symbol_at o i) ≡ false → linker_target (symbol_at o i).name ≡ None
    → outside_of o (symbol_at o i) ≡ None → is_used o i ≡ true → needs_number o i ≡ true
named_needs o w f i lt global other outside used =
    let s = symbol_at o i in
    let common : eqb s.section COMMON ≡ false = not_common _ _ _ (none_or (value_fault i s) (name_fault o i) (f.symbols i lt)).0 in
    needs_when (is_local s) (is_some (linker_target s.name)) (eqb s.section ABS || is_some (symbol_home o s)) (eqb s.section UNDEF && is_used o i) global (ap (λ (t : Option ℕ). is_some t) other)
    (there o (eqb s.section UNDEF) (eqb s.section ABS) (eqb s.section COMMON) (ltb s.section (length o.sections)) (is_used o i) s.section (symbol_home o s) common
    (w.symbols i s (symbol_is o i lt)).index outside used)

target_sound : (o : Object) → IsWellFormed o → IsFaultless o → (g : List ℕ → ℕ) → IsNumbering o g → (i : ℕ) → i < length o.symbols → (reference_of o i).outside ≡ None → is_used o i ≡ true
    → IsTarget (target_number (reference_of o i).target (g (symbol_at o i).name)) (reference_of o i).weak
target_sound o w f g numbers i lt outside used = from (is_local (symbol_at o i)) (eqb i 0) (symbol_home o (symbol_at o i)) (linker_target (symbol_at o i).name) refl refl outside
  where
    s : SymbolParts
    s = symbol_at o i

    from : (l z : Bool) (h : Option Home) (t : Option ℕ) → is_local s ≡ l → linker_target s.name ≡ t
        → (cond l (local_reference i s h (outside_of o s)) (cond z (fixed 10 s.value (outside_of o s)) (global_reference s t (outside_of o s)))).outside ≡ None
        → IsTarget (target_number (cond l (local_reference i s h (outside_of o s)) (cond z (fixed 10 s.value (outside_of o s)) (global_reference s t (outside_of o s)))).target (g s.name))
        (cond l (local_reference i s h (outside_of o s)) (cond z (fixed 10 s.value (outside_of o s)) (global_reference s t (outside_of o s)))).weak
    from true z (Some home) t p q out = low_target (own_target home.place) (own_low home.place)
    from true z None t p q out = low_target 10 (omega arith)
    from false true h t p q out = low_target 10 (omega arith)
    from false false h (Some target) p q out = low_target target (linker_low s.name target q)
    from false false h None p q out =
        let is = among_names o i lt (named_needs o w f i lt p q out used) in
        high_target (g s.name) _ (numbers.high s.name is) (numbers.small s.name is)

-- ---- addends

passes : (b : Bool) → b ≡ true → T b
passes true e = tt
passes false e = absurd cc

small_fits : (z : ℤ) → is_small z ≡ true → FitsSigned w16 z
small_fits (pos n) e =
    let le : n ≤ 32767 = leb-true n 32767 (both (int_le (negsuc 32767) (pos n)) (int_le (pos n) (pos 32767)) e).1 in
    let lt : ltb n 32768 ≡ true = grind (arith, nat_tests) in
    sfits_lit {w = w16} {z = pos n} (passes (ltb n 32768) lt)
small_fits (negsuc n) e =
    let le : n ≤ 32767 = leb-true n 32767 (both (int_le (negsuc 32767) (negsuc n)) (int_le (negsuc n) (pos 32767)) e).0 in
    let lt : ltb n 32768 ≡ true = grind (arith, nat_tests) in
    sfits_lit {w = w16} {z = negsuc n} (passes (ltb n 32768) lt)

-- ---- the whole package

if_set : (x y : Bool) → (not x || y) ≡ true → IsTrue x → y ≡ true
if_set true y e set = e
if_set false y e set = absurd cc

module _ (o : Object) (w : IsWellFormed o) (f : IsFaultless o) (component version : ℕ) (g : List ℕ → ℕ) (numbers : IsNumbering o g) where
  abbrev c : Component
  c = packed o component version g

  code_long : length (packed_code o) ≡ part_length o places.Code
  code_long = length_cleared (filter (stands_in false) (ordered o)) (part_bytes o places.Code) ∙ length_part o w false

  init_long : length (packed_init o) ≡ part_length o places.Init
  init_long = length_cleared (filter (stands_in true) (ordered o)) (part_bytes o places.Init) ∙ length_part o w true

  part_long : (b : Bool) → length (cond b (packed_init o) (packed_code o)) ≡ part_length o (part_of b)
  part_long true = init_long
  part_long false = code_long

  -- exports

  room : (p : Place) → part_length o p ≤ length_of (header_of_component c) p
  room places.Code = omega (arith, code_long)
  room places.Init = omega (arith, init_long)
  room places.Bss = omega arith
  room places.Absolute = let s = part_short o (short o f.size) places.Absolute in omega (arith, s)

  export_sound : (i : ℕ) → (i < length o.symbols) × (is_exported o i ≡ true) → IsExport c (export_of o g i)
  export_sound i is = record {
    symbol = subst (λ (n : ℕ). n < 2 ^ 16) (sym (export_symbol o g i)) (numbers.small (symbol_at o i).name (exported_named o f i is.0 is.1));
    value = from (symbol_home o (symbol_at o i)) refl;
  }
    where
      from : (h : Option Home) → symbol_home o (symbol_at o i) ≡ h
          → (export_at (g (symbol_at o i).name) (symbol_at o i) h).value ≤ length_of (header_of_component c) (export_at (g (symbol_at o i).name) (symbol_at o i) h).place
      from None at = let v = subst (λ (h : Option Home). export_value (symbol_at o i) h < 2 ^ 16) at (export_fits o w f i is.0 is.1).value in omega (arith, v)
      from (Some home) at = let fits = symbol_fits o w i home is.0 at in let r = room home.place in omega (arith, fits, r)

  abbrev made : List Export
  made = map (export_of o g) (exported o)

  all_exports : AllByRecursion (IsExport c) (packed_exports o g)
  all_exports = all_sorted symbol_of (IsExport c) made (all_map (IsExport c) (export_of o g) (exported o)
      (all_so (λ i. (i < length o.symbols) × (is_exported o i ≡ true)) (λ i. IsExport c (export_of o g i)) export_sound (exported o) (exported_are o (length o.symbols))))

  all_high : AllByRecursion (λ e. 16 ≤ e.symbol) (packed_exports o g)
  all_high = all_sorted symbol_of (λ e. 16 ≤ e.symbol) made (all_map (λ e. 16 ≤ e.symbol) (export_of o g) (exported o)
      (all_so (λ i. (i < length o.symbols) × (is_exported o i ≡ true)) (λ i. 16 ≤ (export_of o g i).symbol)
      (λ i is. subst (λ (n : ℕ). 16 ≤ n) (sym (export_symbol o g i)) (numbers.high (symbol_at o i).name (exported_named o f i is.0 is.1))) (exported o) (exported_are o (length o.symbols))))

  rising : ExportsRise 16 (packed_exports o g)
  rising = rise_strictly 16 (packed_exports o g) (rises_above 16 (packed_exports o g) all_high (sorted_rises symbol_of made))
      (λ m. subst (λ (es : List Export). length es ≤ 1) (sym (sorted_keeps symbol_of m made)) (few o f g numbers.once (length o.symbols) (omega arith) m))

  -- relocations

  inside : (b : Bool) (x : Kept) → IsKept o x → stands_in b x ≡ true → x.offset + kept_width x ≤ length (part_bytes o (part_of b))
  inside b x is stands = subst (λ (n : ℕ). x.offset + kept_width x ≤ n) (sym (length_part o w b)) (subst (λ (b : Bool). x.offset + kept_width x ≤ part_length o (part_of b)) (side b stands) is.inside)
    where
      off : (q : Bool) → not q ≡ true → q ≡ false
      off true e = absurd cc
      off false e = refl

      side : (b : Bool) → stands_in b x ≡ true → x.in_init ≡ b
      side true e = e
      side false e = off x.in_init e

  clear_in : (b : Bool) → AllByRecursion (λ x. stands_in b x ≡ true → IsClear (cleared (filter (stands_in b) (ordered o)) (part_bytes o (part_of b))) x) (ordered o)
  clear_in b = all_passing (IsClear (cleared (filter (stands_in b) (ordered o)) (part_bytes o (part_of b)))) (stands_in b) (ordered o)
      (all_clear (filter (stands_in b) (ordered o)) (part_bytes o (part_of b))
      (all_filter (λ x. x.offset + kept_width x ≤ length (part_bytes o (part_of b))) (stands_in b) (ordered o)
      (all_so (IsKept o) (λ x. stands_in b x ≡ true → x.offset + kept_width x ≤ length (part_bytes o (part_of b))) (inside b) (ordered o) (all_kept o w f))))

  used_all : AllByRecursion (λ x. is_used o x.symbol ≡ true) (ordered o)
  used_all = all_sorted (λ x. x.position) (λ x. is_used o x.symbol ≡ true) (kept o) (all_in (λ x. x.symbol) [] (kept o))

  reloc_sound : (x : Kept) → ((IsKept o x × (is_used o x.symbol ≡ true)) × ((stands_in true x ≡ true → IsClear (packed_init o) x) × (stands_in false x ≡ true → IsClear (packed_code o) x)))
      → IsReloc c (reloc_of o g x)
  reloc_sound x all =
      let is = all.0.0 in
      let t : IsTarget (target_number x.target (g (symbol_at o x.symbol).name)) x.weak =
      subst (λ (b : Bool). IsTarget (target_number x.target (g (symbol_at o x.symbol).name)) b) (sym is.weak)
      (subst (λ t. IsTarget (target_number t (g (symbol_at o x.symbol).name)) (reference_of o x.symbol).weak) (sym is.target)
      (target_sound o w f g numbers x.symbol is.symbol is.outside all.0.1)) in
      let within : x.offset + kept_width x ≤ length (cond x.in_init (packed_init o) (packed_code o)) = subst (λ (n : ℕ). x.offset + kept_width x ≤ n) (sym (part_long x.in_init)) is.inside in
      record {
        inside = within;
        aligned = λ set. eqb-true (x.offset % 2) 0 (if_set (is_instruction (shape_of x.kind)) (eqb (x.offset % 2) 0) is.aligned set);
        target = t.target;
        weak = t.weak;
        small = t.small;
        addend = small_fits x.addend is.small;
        clear = zero_value x (cond x.in_init (packed_init o) (packed_code o)) within (clear x.in_init refl);
      }
    where
      clear : (b : Bool) → x.in_init ≡ b → IsClear (cond b (packed_init o) (packed_code o)) x
      clear true e = all.1.0 e
      clear false e = all.1.1 (ap not e)

  all_relocs : AllByRecursion (IsReloc c) (map (reloc_of o g) (ordered o))
  all_relocs = all_map (IsReloc c) (reloc_of o g) (ordered o) (all_so
      (λ x. (IsKept o x × (is_used o x.symbol ≡ true)) × ((stands_in true x ≡ true → IsClear (packed_init o) x) × (stands_in false x ≡ true → IsClear (packed_code o) x)))
      (λ x. IsReloc c (reloc_of o g x)) reloc_sound (ordered o)
      (all_both (λ x. IsKept o x × (is_used o x.symbol ≡ true)) (λ x. (stands_in true x ≡ true → IsClear (packed_init o) x) × (stands_in false x ≡ true → IsClear (packed_code o) x)) (ordered o)
      (all_both (IsKept o) (λ x. is_used o x.symbol ≡ true) (ordered o) (all_kept o w f) used_all)
      (all_both (λ x. stands_in true x ≡ true → IsClear (packed_init o) x) (λ x. stands_in false x ≡ true → IsClear (packed_code o) x) (ordered o) (clear_in true) (clear_in false))))

  position : (x : Kept) → IsKept o x → position_in c (reloc_of o g x) ≡ x.position
  position x is = ap (λ n. cond x.in_init n 0 + x.offset) code_long ∙ sym is.position

  behind : (low : ℕ) (xs : List Kept) → AllByRecursion (λ x. position_in c (reloc_of o g x) ≡ x.position) xs → overlap_fault low xs ≡ None → RelocsRise c low (map (reloc_of o g) xs)
  behind low [] all none = tt
  behind low (x ∷ xs) all none = from (ltb x.position low) refl none (behind (x.position + kept_width x) xs all.1)
    where
      from : (b : Bool) → ltb x.position low ≡ b → cond b (Some (faults.Field x.section x.entry)) (overlap_fault (x.position + kept_width x) xs) ≡ None
          → (overlap_fault (x.position + kept_width x) xs ≡ None → RelocsRise c (x.position + kept_width x) (map (reloc_of o g) xs)) → RelocsRise c low (map (reloc_of o g) (x ∷ xs))
      from true e none rest = absurd cc
      from false e none rest = (
        subst (λ (n : ℕ). low ≤ n) (sym all.0) (ltb-false x.position low e),
        subst (λ (n : ℕ). RelocsRise c (n + kept_width x) (map (reloc_of o g) xs)) (sym all.0) (rest none),
      )

  pub holds : component < 2 ^ 16 → version < 2 ^ 16 → AreBytes (packed_code o) → AreBytes (packed_init o) → IsComponent (packed o component version g)
  holds small_component small_version code init =
      let s = short o f.size in
      let total = length-spelling c in
      let count : length (packed_exports o g) ≡ length (exported o) = length_sorted symbol_of made ∙ length-map (exported o) (export_of o g) in
      let relocs : length (map (reloc_of o g) (ordered o)) ≡ length (kept o) = length-map (ordered o) (reloc_of o g) ∙ length_sorted (λ x. x.position) (kept o) in
      record {
        component = small_component;
        version = small_version;
        code = code;
        init = init;
        even_code = ap (λ n. n % 2) code_long ∙ even_room (filter (is_in places.Code) o.sections);
        even_init = ap (λ n. n % 2) init_long ∙ even_room (filter (is_in places.Init) o.sections);
        even_bss = even_room (filter (is_in places.Bss) o.sections);
        bss = let b = s.bss in omega (arith, b);
        short = let t = s.total in omega (arith, t, total, count, relocs, code_long, init_long);
        exports = all_exports;
        export_order = rising;
        relocs = all_relocs;
        reloc_order = behind 0 (ordered o) (all_so (IsKept o) (λ x. position_in c (reloc_of o g x) ≡ x.position) position (ordered o) (all_kept o w f)) f.apart;
      }

-- so is what equals it
pub of_package : (o p : Component) → p ≡ o → IsComponent o → IsComponent p
of_package o p same is = subst IsComponent (sym same) is

pub component_holds : (o : Object) → IsWellFormed o → pack_fault o ≡ None → (numbers : List ℕ) → length numbers ≡ length (names o) → AreDistinct numbers → All (λ n. 16 ≤ n) numbers
    → All (λ n. n < 2 ^ 16) numbers → (component version : ℕ) → component < 2 ^ 16 → version < 2 ^ 16 → (p : Component) → AreBytes p.code → AreBytes p.init
    → p ≡ packed o component version (number_in (names o) numbers) → IsComponent p
component_holds o w none numbers count apart high small component version small_component small_version p code init is =
    of_package (packed o component version (number_in (names o) numbers)) p is
    (holds o w (faultless o none) component version (number_in (names o) numbers) (numbering o numbers count apart high small) small_component small_version
    (subst AreBytes (ap (λ (q : Component). q.code) is) code) (subst AreBytes (ap (λ (q : Component). q.init) is) init))
