-- What holds of an object without a fault.
use Rattle.std.proofs.Common.{◌≡◌, ◌≢◌, ℕ, zero, suc, ◌+◌, ◌%◌, ◌<◌, ◌≤◌, ◌^◌, Bool, true, false, cond, Option, Some, None, List, [], ◌∷◌, ◌++◌, length, get_or, take, drop, replicate, refl, sym, ap, subst, ◌∙◌, arith, add-one, pos, ◌+ℤ◌, ltb, leb, eqb}
use Rattle.std.specs.Prelude.{slice_get, not, ◌&&◌, ◌||◌, is_some, IsTrue}
use Rattle.std.specs.List.{filter, flat_map, range_with_len, AllByRecursion}
use Rattle.std.specs.Option.{option_or, option_map, option_and_then, option_to_list}
use Rattle.std.proofs.lemmas.Bool.{ltb-false, ltb-true, leb-true, eqb-true}
use Rattle.std.proofs.lemmas.List.{length-append, length-replicate, take-append-drop}
use Rattle.std.proofs.lemmas.List.Elements.{filter-append}
use Rattle.std.proofs.lemmas.List.Sums.{sum_by-append, sum_by-cons}
use Rattle.std.proofs.lemmas.Option.{slice_get-get_or}
use Rattle.avr_reloc.specs.declared.kind.RelocType.{RelocType}
use Rattle.avr_reloc.specs.Kind.{kind_of, shape_of, width_of, is_instruction}
use Rattle.avr_elf.specs.declared.constants.TheConstants.{PROGBITS, NOBITS, UNDEF, ABS, COMMON}
use Rattle.avr_elf.specs.declared.relocation.Rela.{Rela}
use Rattle.avr_elf.specs.First.{first_of}
use Rattle.avr_elf.specs.Object.{SectionParts, SymbolParts, Object, relas_at}
use Rattle.avr_elf.specs.WellFormed.{is_loaded, IsSection, IsWellFormed}
use Rattle.component_package.specs.declared.part.Place.{Place}
use Rattle.component_package.specs.declared.part.Place.TheVariants as places
use Rattle.object_packer.specs.declared.fault.PackFault.{PackFault}
use Rattle.object_packer.specs.declared.layout.Home.{Home}
use Rattle.object_packer.specs.declared.kept.Kept.{Kept}
use Rattle.object_packer.specs.Sections.{section_at, symbol_at, rela_at}
use Rattle.object_packer.specs.Parts.{is_place, is_in, place_of, is_in_flash, even_up, room_of, part_length, length_before, home_in, home_of, filled, bytes_in, part_bytes}
use Rattle.object_packer.specs.References.{is_local, section_of, symbol_home, reference_of}
use Rattle.object_packer.specs.Relocations.{kept_of, kept_at, kept_with, kept_in, kept, ordered, kept_width}
use Rattle.object_packer.specs.Names.{is_exported, exported_before, exported}
use Rattle.object_packer.specs.Layout.{export_value, IsExportable, IsPackable}
use Rattle.object_packer.specs.Faults.{symbol_fault, has_field, is_small, addend_fault, kept_fault, entry_fault, entries_fault, relas_fault, overlap_fault, package_length, size_fault, sections_fault, symbols_fault, relocs_fault, pack_fault}
use Rattle.object_packer.specs.Packed.{stands_in, part_of}
use Rattle.object_packer.proofs.First.{none_or, first_of-none, flat_map_more, filter_more}
use Rattle.object_packer.proofs.Lists.{unwrap_get}
use Rattle.object_packer.proofs.Rooms.{length_more, no_absolute, never_absolute}
use Rattle.object_packer.proofs.Sorting.{all_sorted}

-- ---- no fault of any kind

pub record IsFaultless (o : Object) : Type 0 where
  pub symbols : (i : ℕ) → i < length o.symbols → symbol_fault o i ≡ None
  pub entries : (k i : ℕ) (home : Home) → k < length o.sections → home_of o k ≡ Some home → i < length (relas_at o k) → entry_fault o k i ≡ None
  pub apart : overlap_fault 0 (ordered o) ≡ None
  pub size : size_fault o ≡ None

pub faultless : (o : Object) → pack_fault o ≡ None → IsFaultless o
faultless o none =
    let a = none_or (sections_fault o) (option_or (symbols_fault o) (option_or (relocs_fault o) (size_fault o))) none in
    let b = none_or (symbols_fault o) (option_or (relocs_fault o) (size_fault o)) a.1 in
    let c = none_or (relocs_fault o) (size_fault o) b.1 in
    let d = none_or (first_of (relas_fault o) (length o.sections)) (overlap_fault 0 (ordered o)) c.0 in
    record {
      symbols = λ i lt. first_of-none (symbol_fault o) (length o.symbols) i b.0 lt;
      entries = λ k i home lt at inside. first_of-none (entry_fault o k) (length (relas_at o k)) i (sym (ap (entries_fault o k) at) ∙ first_of-none (relas_fault o) (length o.sections) k d.0 lt) inside;
      apart = d.1;
      size = c.1;
    }

-- ---- sizes

pub record IsShort (o : Object) : Type 0 where
  pub code : part_length o places.Code ≤ 65534
  pub init : part_length o places.Init ≤ 65534
  pub bss : part_length o places.Bss ≤ 65534
  pub total : package_length o ≤ 9984

capped : (limit n : ℕ) (f : PackFault) (rest : Option PackFault) (b : Bool) → ltb limit n ≡ b → cond b (Some f) rest ≡ None → (n ≤ limit) × (rest ≡ None)
capped limit n f rest true e none = absurd cc
capped limit n f rest false e none = (ltb-false limit n e, none)

pub short : (o : Object) → size_fault o ≡ None → IsShort o
short o none =
    let a = capped 65534 (part_length o places.Code) _ _ _ refl none in
    let b = capped 65534 (part_length o places.Init) _ _ _ refl a.1 in
    let c = capped 65534 (part_length o places.Bss) _ _ _ refl b.1 in
    let d = capped 9984 (package_length o) _ _ _ refl c.1 in
    record { code = a.0; init = b.0; bss = c.0; total = d.0 }

-- ---- parts

-- the sections before one take no more than all
before_all : (o : Object) (p : Place) (n : ℕ) → length_before o p n ≤ part_length o p
before_all o p n =
    let parts : o.sections ≡ take n o.sections ++ drop n o.sections = sym (take-append-drop n o.sections) in
    let sum : part_length o p ≡ length_before o p n + room_of (filter (is_in p) (drop n o.sections)) =
    (ap (λ xs. room_of (filter (is_in p) xs)) parts ∙ ap room_of (filter-append (is_in p) (take n o.sections) (drop n o.sections))
    ∙ sum_by-append (λ s. even_up s.size) (filter (is_in p) (take n o.sections)) (filter (is_in p) (drop n o.sections))) in
    omega (arith, sum)

-- a section in memory belongs to code, data or bss
placed : (s : SectionParts) (p : Place) → place_of s ≡ Some p → is_place p (Some p) ≡ true
placed s p e = from (not (is_loaded s)) (eqb s.kind NOBITS) (is_in_flash s) p e
  where
    from : (a b c : Bool) (p : Place) → cond a None (cond b (Some places.Bss) (cond c (Some places.Code) (Some places.Init))) ≡ Some p → is_place p (Some p) ≡ true
    from a b c places.Code e = refl
    from a b c places.Init e = refl
    from a b c places.Bss e = refl
    from true b c places.Absolute e = absurd cc
    from false true c places.Absolute e = absurd cc
    from false false true places.Absolute e = absurd cc
    from false false false places.Absolute e = absurd cc

-- a section ends within its part
pub section_fits : (o : Object) (k : ℕ) (home : Home) → k < length o.sections → home_of o k ≡ Some home → home.start + (section_at o k).size ≤ part_length o home.place
section_fits o k home lt at = from (place_of (section_at o k)) refl at
  where
    from : (q : Option Place) → place_of (section_at o k) ≡ q → home_in o k q ≡ Some home → home.start + (section_at o k).size ≤ part_length o home.place
    from None is e = absurd cc
    from (Some p) is e =
        let same : record { place = p; start = length_before o p k } ≡ home = cc in
        let next : length_before o p (k + 1) ≡ length_before o p k + even_up (section_at o k).size =
        (length_more o p k (Some p) lt is ∙ ap (λ b. length_before o p k + cond b (even_up (section_at o k).size) 0) (placed (section_at o k) p is)) in
        let all = before_all o p (k + 1) in
        let fits : length_before o p k + (section_at o k).size ≤ part_length o p = omega (arith, next, all) in
        subst (λ (h : Home). h.start + (section_at o k).size ≤ part_length o h.place) same fits

-- the section's part
pub home_place : (o : Object) (k : ℕ) (home : Home) → home_of o k ≡ Some home → place_of (section_at o k) ≡ Some home.place
home_place o k home at = from (place_of (section_at o k)) refl at
  where
    from : (q : Option Place) → place_of (section_at o k) ≡ q → home_in o k q ≡ Some home → q ≡ Some home.place
    from None is e = absurd cc
    from (Some p) is e = let same : record { place = p; start = length_before o p k } ≡ home = cc in ap (λ (h : Home). Some h.place) same

-- a section with a part is in memory
loaded_from : (s : SectionParts) (p : Place) → place_of s ≡ Some p → is_loaded s ≡ true
loaded_from s p e = from (is_loaded s) (eqb s.kind NOBITS) (is_in_flash s) e
  where
    from : (a b c : Bool) → cond (not a) None (cond b (Some places.Bss) (cond c (Some places.Code) (Some places.Init))) ≡ Some p → a ≡ true
    from true b c e = refl
    from false b c e = absurd cc

-- a section of the program's bytes is in code or data
pub in_flash_or_ram : (s : SectionParts) (p : Place) → place_of s ≡ Some p → s.kind ≡ PROGBITS → part_of (is_place places.Init (Some p)) ≡ p
in_flash_or_ram s p e kind = from (not (is_loaded s)) (eqb s.kind NOBITS) (is_in_flash s) p (let t : eqb s.kind NOBITS ≡ false = ap (λ n. eqb n NOBITS) kind in t) e
  where
    from : (a b c : Bool) (p : Place) → b ≡ false → cond a None (cond b (Some places.Bss) (cond c (Some places.Code) (Some places.Init))) ≡ Some p → part_of (is_place places.Init (Some p)) ≡ p
    from a b c places.Code f e = refl
    from a b c places.Init f e = refl
    from true b c places.Bss f e = absurd cc
    from false true c places.Bss f e = absurd cc
    from false false true places.Bss f e = absurd cc
    from false false false places.Bss f e = absurd cc
    from true b c places.Absolute f e = absurd cc
    from false true c places.Absolute f e = absurd cc
    from false false true places.Absolute f e = absurd cc
    from false false false places.Absolute f e = absurd cc

-- rooms are even
even_more : (n m : ℕ) → m % 2 ≡ 0 → (n + n % 2 + m) % 2 ≡ 0
even_more n m e = omega (arith, e)

pub even_room : (ss : List SectionParts) → room_of ss % 2 ≡ 0
even_room [] = refl
even_room (s ∷ ss) = ap (λ n. n % 2) (sum_by-cons (λ s. even_up s.size) s ss) ∙ even_more s.size (room_of ss) (even_room ss)

pub start_even : (o : Object) (k : ℕ) (home : Home) → home_of o k ≡ Some home → home.start % 2 ≡ 0
start_even o k home at = from (place_of (section_at o k)) at
  where
    from : (q : Option Place) → home_in o k q ≡ Some home → home.start % 2 ≡ 0
    from None e = absurd cc
    from (Some p) e = let same : record { place = p; start = length_before o p k } ≡ home = cc in subst (λ (h : Home). h.start % 2 ≡ 0) same (even_room (filter (is_in p) (take k o.sections)))

-- ---- relocations

pub record IsKept (o : Object) (x : Kept) : Type 0 where
  pub symbol : x.symbol < length o.symbols
  pub inside : x.offset + kept_width x ≤ part_length o (part_of x.in_init)
  pub aligned : (not (is_instruction (shape_of x.kind)) || eqb (x.offset % 2) 0) ≡ true
  pub small : is_small x.addend ≡ true
  pub target : x.target ≡ (reference_of o x.symbol).target
  pub weak : x.weak ≡ (reference_of o x.symbol).weak
  pub position : x.position ≡ cond x.in_init (part_length o places.Code) 0 + x.offset
  pub outside : (reference_of o x.symbol).outside ≡ None

section_is : (o : Object) (k : ℕ) → k < length o.sections → slice_get o.sections k ≡ Some (section_at o k)
section_is o k lt = let d : SectionParts = record { name = []; kind = 0; flags = 0; size = 0; align = 0; bytes = [] } in
    slice_get-get_or o.sections k d lt ∙ ap (λ s. Some s) (sym (unwrap_get o.sections k d lt))

rela_is : (o : Object) (k i : ℕ) → i < length (relas_at o k) → slice_get (relas_at o k) i ≡ Some (rela_at o k i)
rela_is o k i lt = let d : Rela = record { offset = 0; symbol = 0; kind = 0; addend = pos 0 } in
    slice_get-get_or (relas_at o k) i d lt ∙ ap (λ x. Some x) (sym (unwrap_get (relas_at o k) i d lt))

-- what a fault of an entry would have said
field_and_addend : (k i : ℕ) (f : PackFault) (field small : Bool) (outside : Option ℕ) → cond (not field) (Some f) (addend_fault k i small outside) ≡ None → (field ≡ true) × (small ≡ true)
field_and_addend k i f false small outside e = absurd cc
field_and_addend k i f true small (Some j) e = absurd cc
field_and_addend k i f true true None e = (refl, refl)
field_and_addend k i f true false None e = absurd cc

none_outside : (k i : ℕ) (f : PackFault) (field small : Bool) (outside : Option ℕ) → cond (not field) (Some f) (addend_fault k i small outside) ≡ None → outside ≡ None
none_outside k i f false small outside e = absurd cc
none_outside k i f true small (Some j) e = absurd cc
none_outside k i f true small None e = refl

pub both : (a b : Bool) → (a && b) ≡ true → (a ≡ true) × (b ≡ true)
both true true e = (refl, refl)
both true false e = absurd cc
both false b e = absurd cc

behind_kind : (f : PackFault) (b : Bool) (rest : Option PackFault) → cond b (Some f) rest ≡ None → rest ≡ None
behind_kind f true rest e = absurd cc
behind_kind f false rest e = e

-- an entry that is kept, in a section that is well formed
kept_sound : (o : Object) (w : IsWellFormed o) (k i : ℕ) (home : Home) (t : RelocType) → k < length o.sections → home_of o k ≡ Some home → i < length (relas_at o k)
    → kind_of (rela_at o k i).kind ≡ Some t → entry_fault o k i ≡ None → IsKept o (kept_of o k home i t)
kept_sound o w k i home t lt at inside kind none =
    let x = rela_at o k i in
    let is = w.relas k i x (rela_is o k i inside) in
    let s = section_at o k in
    let fits = section_fits o k home lt at in
    let part = in_flash_or_ram s home.place (home_place o k home at) (is.bytes s (section_is o k lt)) in
    let rest : kept_fault o k i (Some t) ≡ None = subst (λ (q : Option RelocType). kept_fault o k i q ≡ None) kind (behind_kind _ _ _ none) in
    let told = field_and_addend k i _ (has_field s.size x.offset t) (is_small (pos (reference_of o x.symbol).value +ℤ x.addend)) (reference_of o x.symbol).outside rest in
    let parts = both (leb (x.offset + width_of (shape_of t)) s.size) (not (is_instruction (shape_of t)) || eqb (x.offset % 2) 0) told.0 in
    let within : x.offset + width_of (shape_of t) ≤ s.size = leb-true _ _ parts.0 in
    let ends : home.start + x.offset + width_of (shape_of t) ≤ part_length o home.place = omega (arith, within, fits) in
    record {
      symbol = is.names;
      inside = subst (λ (p : Place). home.start + x.offset + width_of (shape_of t) ≤ part_length o p) (sym part) ends;
      aligned = let even = start_even o k home at in
          let same : (home.start + x.offset) % 2 ≡ x.offset % 2 = omega (arith, even) in
          subst (λ (n : ℕ). (not (is_instruction (shape_of t)) || eqb n 0) ≡ true) (sym same) parts.1;
      small = told.1;
      target = refl;
      weak = refl;
      position = refl;
      outside = none_outside k i _ (has_field s.size x.offset t) (is_small (pos (reference_of o x.symbol).value +ℤ x.addend)) (reference_of o x.symbol).outside rest;
    }

pub all_append : {X : Type 0} (P : X → Type 0) (xs ys : List X) → AllByRecursion P xs → AllByRecursion P ys → AllByRecursion P (xs ++ ys)
all_append P [] ys a b = b
all_append P (x ∷ xs) ys a b = (a.0, all_append P xs ys a.1 b)

-- what holds along numbers
all_range : {X : Type 0} (P : X → Type 0) (f : ℕ → List X) (n : ℕ) → ((i : ℕ) → i < n → AllByRecursion P (f i)) → AllByRecursion P (flat_map f (range_with_len 0 n))
all_range P f zero each = tt
all_range P f (suc n) each =
    let step : flat_map f (range_with_len 0 (suc n)) ≡ flat_map f (range_with_len 0 n) ++ f n = ap (λ (k : ℕ). flat_map f (range_with_len 0 k)) (sym (add-one n)) ∙ flat_map_more f n in
    subst (AllByRecursion P) (sym step) (all_append P (flat_map f (range_with_len 0 n)) (f n) (all_range P f n (λ i lt. each i (omega (arith, lt)))) (each n (omega arith)))

-- an entry, kept or not
entry_sound : (o : Object) (w : IsWellFormed o) (k i : ℕ) (home : Home) → k < length o.sections → home_of o k ≡ Some home → i < length (relas_at o k)
    → entry_fault o k i ≡ None → AllByRecursion (IsKept o) (option_to_list (kept_at o k home i))
entry_sound o w k i home lt at inside none = from (kind_of (rela_at o k i).kind) refl
  where
    from : (q : Option RelocType) → kind_of (rela_at o k i).kind ≡ q → AllByRecursion (IsKept o) (option_to_list (option_map (kept_of o k home i) q))
    from None is = tt
    from (Some t) is = (kept_sound o w k i home t lt at inside is none, tt)

section_sound : (o : Object) (w : IsWellFormed o) (f : IsFaultless o) (k : ℕ) (h : Option Home) → k < length o.sections → home_of o k ≡ h → AllByRecursion (IsKept o) (kept_with o k h)
section_sound o w f k None lt at = tt
section_sound o w f k (Some home) lt at =
    all_range (IsKept o) (λ i. option_to_list (kept_at o k home i)) (length (relas_at o k)) (λ i inside. entry_sound o w k i home lt at inside (f.entries k i home lt at inside))

-- all that are kept, in order
pub all_kept : (o : Object) → IsWellFormed o → IsFaultless o → AllByRecursion (IsKept o) (ordered o)
all_kept o w f = all_sorted (λ x. x.position) (IsKept o) (kept o) (all_range (IsKept o) (kept_in o) (length o.sections) (λ k lt. section_sound o w f k (home_of o k) lt refl))

-- at each place of a list
pub all_at : {X : Type 0} (P : X → Type 0) (xs : List X) (k : ℕ) (d : X) → AllByRecursion P xs → k < length xs → P (get_or xs k d)
all_at P [] k d all lt = absurd (omega (arith, lt))
all_at P (x ∷ xs) zero d all lt = all.0
all_at P (x ∷ xs) (suc k) d all lt = all_at P xs k d all.1 (omega (arith, lt))

-- ---- exports

pub symbol_is : (o : Object) (i : ℕ) → i < length o.symbols → slice_get o.symbols i ≡ Some (symbol_at o i)
symbol_is o i lt = let d : SymbolParts = record { name = []; value = 0; size = 0; binding = 0; kind = 0; section = 0 } in
    slice_get-get_or o.symbols i d lt ∙ ap (λ s. Some s) (sym (unwrap_get o.symbols i d lt))

record IsItsSection (o : Object) (s : SymbolParts) (k : ℕ) : Type 0 where
  is : s.section ≡ k
  inside : k < length o.sections
  defined : eqb s.section UNDEF ≡ false

its_section : (o : Object) (s : SymbolParts) (k : ℕ) → section_of o s ≡ Some k → IsItsSection o s k
its_section o s k e = from (eqb s.section UNDEF) (eqb s.section ABS) (eqb s.section COMMON) (ltb s.section (length o.sections)) refl refl e
  where
    from : (a b c d : Bool) → eqb s.section UNDEF ≡ a → ltb s.section (length o.sections) ≡ d → cond (a || b || c || not d) None (Some s.section) ≡ Some k → IsItsSection o s k
    from true b c d p q e = absurd cc
    from false true c d p q e = absurd cc
    from false false true d p q e = absurd cc
    from false false false false p q e = absurd cc
    from false false false true p q e = let same : s.section ≡ k = cc in record { is = same; inside = subst (λ (n : ℕ). n < length o.sections) same (ltb-true _ _ q); defined = p }

-- a symbol in a section in memory is within its part, or at its end
pub symbol_fits : (o : Object) (w : IsWellFormed o) (i : ℕ) (home : Home) → i < length o.symbols → symbol_home o (symbol_at o i) ≡ Some home
    → home.start + (symbol_at o i).value ≤ part_length o home.place
symbol_fits o w i home lt at = from (section_of o (symbol_at o i)) refl at
  where
    from : (q : Option ℕ) → section_of o (symbol_at o i) ≡ q → option_and_then (home_of o) q ≡ Some home → home.start + (symbol_at o i).value ≤ part_length o home.place
    from None is e = absurd cc
    from (Some k) is e =
        let its = its_section o (symbol_at o i) k is in
        let x = section_at o k in
        let other : (symbol_at o i).section ≢ UNDEF = λ z. absurd (let t = ap (λ n. eqb n UNDEF) z in let u = its.defined in cc) in
        let here : slice_get o.sections (symbol_at o i).section ≡ Some x = ap (slice_get o.sections) its.is ∙ section_is o k its.inside in
        let within = (w.symbols i (symbol_at o i) (symbol_is o i lt)).within x other here (loaded_from x home.place (home_place o k home e)) in
        let fits = section_fits o k home its.inside e in
        omega (arith, within, fits)

exported_value : (local absolute common : Bool) (i v : ℕ) (f g : PackFault) (rest : Option PackFault) → (not local && (absolute || false)) ≡ true
    → option_or (cond common (Some f) (cond (not local && absolute && ltb 65535 v) (Some g) None)) rest ≡ None → v ≤ 65535
exported_value true a c i v f g rest e none = absurd cc
exported_value false false c i v f g rest e none = absurd cc
exported_value false true true i v f g rest e none = absurd cc
exported_value false true false i v f g rest e none = from (ltb 65535 v) refl none
  where
    from : (b : Bool) → ltb 65535 v ≡ b → option_or (cond b (Some g) None) rest ≡ None → v ≤ 65535
    from true p n = absurd cc
    from false p n = ltb-false 65535 v p

pub part_short : (o : Object) → IsShort o → (p : Place) → part_length o p ≤ 65534
part_short o s places.Code = s.code
part_short o s places.Init = s.init
part_short o s places.Bss = s.bss
part_short o s places.Absolute = let none = no_absolute o.sections in omega (arith, none)

pub export_fits : (o : Object) (w : IsWellFormed o) (f : IsFaultless o) (i : ℕ) → i < length o.symbols → is_exported o i ≡ true → IsExportable o i
export_fits o w f i lt is = record { inside = lt; value = from (symbol_home o (symbol_at o i)) refl }
  where
    from : (h : Option Home) → symbol_home o (symbol_at o i) ≡ h → export_value (symbol_at o i) h < 2 ^ 16
    from None at =
        let exports : (not (is_local (symbol_at o i)) && (eqb (symbol_at o i).section ABS || false)) ≡ true = subst (λ (h : Option Home). (not (is_local (symbol_at o i)) && (eqb (symbol_at o i).section ABS || is_some h)) ≡ true) at is in
        let value = exported_value (is_local (symbol_at o i)) (eqb (symbol_at o i).section ABS) (eqb (symbol_at o i).section COMMON) i (symbol_at o i).value _ _ _ exports (f.symbols i lt) in
        omega (arith, value)
    from (Some home) at =
        let fits = symbol_fits o w i home lt at in
        let s = short o f.size in
        let part = part_short o s home.place in
        omega (arith, fits, part)

-- ---- bytes

all_sections : (xs : List SectionParts) → ((i : ℕ) (s : SectionParts) → slice_get xs i ≡ Some s → IsSection s) → AllByRecursion IsSection xs
all_sections [] h = tt
all_sections (x ∷ xs) h = (h 0 x refl, all_sections xs (λ i s e. h (suc i) s e))

is_part : (p : Place) (q : Option Place) → is_place p q ≡ true → q ≡ Some p
is_part places.Code (Some places.Code) e = refl
is_part places.Init (Some places.Init) e = refl
is_part places.Bss (Some places.Bss) e = refl
is_part places.Code None e = absurd cc
is_part places.Code (Some places.Init) e = absurd cc
is_part places.Code (Some places.Bss) e = absurd cc
is_part places.Code (Some places.Absolute) e = absurd cc
is_part places.Init None e = absurd cc
is_part places.Init (Some places.Code) e = absurd cc
is_part places.Init (Some places.Bss) e = absurd cc
is_part places.Init (Some places.Absolute) e = absurd cc
is_part places.Bss None e = absurd cc
is_part places.Bss (Some places.Code) e = absurd cc
is_part places.Bss (Some places.Init) e = absurd cc
is_part places.Bss (Some places.Absolute) e = absurd cc
is_part places.Absolute q e = absurd (let n = never_absolute q in cc)

-- a section of code or data is bytes of the program
bytes_kind : (s : SectionParts) (b : Bool) → IsSection s → place_of s ≡ Some (part_of b) → s.kind ≡ PROGBITS
bytes_kind s b w e =
    let kind = w.kind (loaded_from s (part_of b) e) in
    from (not (is_loaded s)) (eqb s.kind NOBITS) (is_in_flash s) b refl e kind
  where
    from : (a n c b : Bool) → eqb s.kind NOBITS ≡ n → cond a None (cond n (Some places.Bss) (cond c (Some places.Code) (Some places.Init))) ≡ Some (part_of b)
        → (eqb s.kind PROGBITS || eqb s.kind NOBITS) ≡ true → s.kind ≡ PROGBITS
    from true n c b is e k = absurd cc
    from false true c true is e k = absurd cc
    from false true c false is e k = absurd cc
    from false false c b is e k = eqb-true s.kind PROGBITS (left (eqb s.kind PROGBITS) (eqb s.kind NOBITS) is k)
      where
        left : (x y : Bool) → y ≡ false → (x || y) ≡ true → x ≡ true
        left true y f t = refl
        left false y f t = absurd (let u = sym f ∙ t in cc)

length_filled : (bytes : List ℕ) → length (filled bytes) ≡ even_up (length bytes)
length_filled bytes = length-append bytes (replicate {A = ℕ} (length bytes % 2) 0) ∙ ap (λ n. length bytes + n) (length-replicate (length bytes % 2) 0)

section_bytes : (s : SectionParts) (b : Bool) → IsSection s → length (bytes_in (part_of b) s) ≡ cond (is_in (part_of b) s) (even_up s.size) 0
section_bytes s b w = from (is_in (part_of b) s) refl
  where
    from : (i : Bool) → is_in (part_of b) s ≡ i → length (cond i (filled s.bytes) []) ≡ cond i (even_up s.size) 0
    from true e = length_filled s.bytes ∙ ap even_up (w.whole (bytes_kind s b w (is_part (part_of b) (place_of s) e)))
    from false e = refl

bytes_of_sections : (xs : List SectionParts) (b : Bool) → AllByRecursion IsSection xs → length (flat_map (bytes_in (part_of b)) xs) ≡ room_of (filter (is_in (part_of b)) xs)
bytes_of_sections [] b all = refl
bytes_of_sections (x ∷ xs) b all =
    length-append (bytes_in (part_of b) x) (flat_map (bytes_in (part_of b)) xs) ∙ ap (λ n. n + length (flat_map (bytes_in (part_of b)) xs)) (section_bytes x b all.0)
    ∙ ap (λ n. cond (is_in (part_of b) x) (even_up x.size) 0 + n) (bytes_of_sections xs b all.1) ∙ from (is_in (part_of b) x)
  where
    from : (i : Bool) → cond i (even_up x.size) 0 + room_of (filter (is_in (part_of b)) xs) ≡ room_of (cond i (x ∷ filter (is_in (part_of b)) xs) (filter (is_in (part_of b)) xs))
    from true = sym (sum_by-cons (λ s. even_up s.size) x (filter (is_in (part_of b)) xs))
    from false = omega arith

-- a part has as many bytes as its length says
pub length_part : (o : Object) → IsWellFormed o → (b : Bool) → length (part_bytes o (part_of b)) ≡ part_length o (part_of b)
length_part o w b = bytes_of_sections o.sections b (all_sections o.sections w.sections)

-- ---- what the package asks

stands_here : (b : Bool) (x : Kept) → IsTrue (stands_in b x) → x.in_init ≡ b
stands_here true x t = from x.in_init t
  where
    from : (c : Bool) → IsTrue c → c ≡ true
    from true t = refl
    from false t = absurd cc
stands_here false x t = from x.in_init t
  where
    from : (c : Bool) → IsTrue (not c) → c ≡ false
    from true t = absurd cc
    from false t = refl

pub field_inside : (o : Object) → IsWellFormed o → pack_fault o ≡ None → (b : Bool) (xs : List Kept) → xs ≡ ordered o → (k : ℕ) (d : Kept) → k < length xs
    → IsTrue (stands_in b (get_or xs k d)) → (get_or xs k d).offset + kept_width (get_or xs k d) ≤ length (part_bytes o (part_of b))
field_inside o w none b xs same k d lt stands =
    let all = subst (AllByRecursion (IsKept o)) (sym same) (all_kept o w (faultless o none)) in
    let one = all_at (IsKept o) xs k d all lt in
    let here = stands_here b (get_or xs k d) stands in
    let inside : (get_or xs k d).offset + kept_width (get_or xs k d) ≤ part_length o (part_of b) = subst (λ (c : Bool). (get_or xs k d).offset + kept_width (get_or xs k d) ≤ part_length o (part_of c)) here one.inside in
    subst (λ (n : ℕ). (get_or xs k d).offset + kept_width (get_or xs k d) ≤ n) (sym (length_part o w b)) inside

pub packable : (o : Object) → IsWellFormed o → pack_fault o ≡ None → (xs : List Kept) → xs ≡ ordered o → (k : ℕ) (d : Kept) → k < length xs → IsPackable o (get_or xs k d)
packable o w none xs same k d lt =
    let f = faultless o none in
    let all = subst (AllByRecursion (IsKept o)) (sym same) (all_kept o w f) in
    let one = all_at (IsKept o) xs k d all lt in
    let part = part_short o (short o f.size) (part_of (get_or xs k d).in_init) in
    record { symbol = one.symbol; offset = omega (arith, one.inside, part) }

pub exported_are : (o : Object) (n : ℕ) → AllByRecursion (λ i. (i < n) × (is_exported o i ≡ true)) (exported_before o n)
exported_are o zero = tt
exported_are o (suc n) =
    let step : exported_before o (suc n) ≡ exported_before o n ++ cond (is_exported o n) (n ∷ []) [] = ap (λ (k : ℕ). exported_before o k) (sym (add-one n)) ∙ filter_more (is_exported o) n in
    subst (AllByRecursion (λ i. (i < suc n) × (is_exported o i ≡ true))) (sym step)
    (all_append (λ i. (i < suc n) × (is_exported o i ≡ true)) (exported_before o n) (cond (is_exported o n) (n ∷ []) []) (wider (exported_before o n) (exported_are o n)) (last (is_exported o n) refl))
  where
    wider : (is : List ℕ) → AllByRecursion (λ i. (i < n) × (is_exported o i ≡ true)) is → AllByRecursion (λ i. (i < suc n) × (is_exported o i ≡ true)) is
    wider [] all = tt
    wider (i ∷ is) all = ((omega (arith, all.0.0), all.0.1), wider is all.1)

    last : (b : Bool) → is_exported o n ≡ b → AllByRecursion (λ i. (i < suc n) × (is_exported o i ≡ true)) (cond b (n ∷ []) [])
    last true e = ((omega arith, e), tt)
    last false e = tt

pub exportable : (o : Object) → IsWellFormed o → pack_fault o ≡ None → (is : List ℕ) → is ≡ exported o → (k : ℕ) → k < length is → IsExportable o (get_or is k 0)
exportable o w none is same k lt =
    let all = subst (AllByRecursion (λ i. (i < length o.symbols) × (is_exported o i ≡ true))) (sym same) (exported_are o (length o.symbols)) in
    let one = all_at (λ i. (i < length o.symbols) × (is_exported o i ≡ true)) is k 0 all lt in
    export_fits o w (faultless o none) (get_or is k 0) one.0 one.1
