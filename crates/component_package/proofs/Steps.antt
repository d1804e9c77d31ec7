-- The steps of reading, one by one.
use Rattle.std.proofs.Common.{◌≡◌, ℕ, ◌+◌, ◌-◌, ◌≤◌, ◌%◌, Bool, true, false, cond, Option, Some, None, Result, Ok, Err, List, [], ◌∷◌, ◌++◌, length, get_or, replicate, refl, sym, ap, inl, inr, arith, add-one}
use Rattle.std.specs.Prelude.{not, ◌&&◌, unwrap_or}
use Rattle.std.specs.Result.{result_err}
use Rattle.std.proofs.lemmas.Bool.{cases_Bool}
use Rattle.avr_reloc.specs.declared.kind.RelocType.{RelocType}
use Rattle.avr_reloc.specs.declared.kind.RelocType.TheVariants.{Abs32}
use Rattle.avr_reloc.specs.Kind.{kind_of}
use Rattle.component_package.specs.declared.part.Place.{Place}
use Rattle.component_package.specs.declared.part.Place.TheVariants as places
use Rattle.component_package.specs.declared.part.Export.{Export}
use Rattle.component_package.specs.declared.part.Reloc.{Reloc}
use Rattle.component_package.specs.declared.part.Header.{Header}
use Rattle.component_package.specs.declared.fault.PackageFault.{PackageFault}
use Rattle.component_package.specs.declared.fault.PackageFault.TheVariants.{RelocPlace, RelocOrder, Target, FieldNotZero}
use Rattle.component_package.specs.packages.Reading.{header_of, header_fault, place_of, check_export_of, export_in, export_of, raw_export, symbol_before, export_fault, exports_fault, has_place_byte, is_inside, has_place, is_behind, has_target, is_clear, check_reloc_of, reloc_in, reloc_with, reloc_of, raw_reloc, reloc_before, raw_field, reloc_fault, relocs_fault, span_in, field_span_of, package_fault}
use Rattle.component_package.specs.Laws.{spanned_field, reloc_step}

-- ---- choices that came to a value

-- behind a test that was true
taken : {A F : Type 0} (b : Bool) (x : Result A F) (f : F) (y : A) → cond b x (Err f) ≡ Ok y → x ≡ Ok y
taken true x f y e = e
taken false x f y e = absurd cc

-- behind a test that was false
past : {A F : Type 0} (b : Bool) (x : Result A F) (f : F) (y : A) → cond b (Err f) x ≡ Ok y → x ≡ Ok y
past true x f y e = absurd cc
past false x f y e = e

-- the value behind such a test
taken_value : {A F : Type 0} (b : Bool) (x : A) (f : F) (y : A) → cond b (Ok x) (Err f) ≡ Ok y → y ≡ x
taken_value true x f y e = cc
taken_value false x f y e = absurd cc

-- the value behind a test that was false
past_value : {A F : Type 0} (b : Bool) (x : A) (f : F) (y : A) → cond b (Err f) (Ok x) ≡ Ok y → y ≡ x
past_value true x f y e = absurd cc
past_value false x f y e = cc

-- ---- exports

-- an export in a place that there is
placed : (h : Header) (i : ℕ) (raw : List ℕ) (place : Option Place) (e : Export) → export_in h i raw place ≡ Ok e
    → e ≡ record (export_of raw) { place = unwrap_or place places.Code }
placed h i raw None e here = absurd cc
placed h i raw (Some place) e here = taken_value _ _ _ _ here

-- an export that the check accepts is the one that the bytes say
pub export_said : (h : Header) (before : Option ℕ) (i : ℕ) (raw : List ℕ) (e : Export) → check_export_of h before i raw ≡ Ok e → e ≡ export_of raw
export_said h before i raw e here = placed h i raw (place_of (get_or raw 2 0 % 128)) e (taken _ _ _ _ here)

-- the fault of an export, by what the check was given
pub export_fault_is : (b : List ℕ) (h : Header) (before : Option ℕ) (i : ℕ) (raw : List ℕ) (r : Result Export PackageFault)
    → h ≡ header_of b → before ≡ symbol_before b i → raw ≡ raw_export b i → r ≡ check_export_of h before i raw → export_fault b i ≡ result_err r
export_fault_is b h before i raw r header former there result = rw (result, header, former, there) refl

-- the symbol before the next export
pub symbol_after : (b : List ℕ) (h : Header) (before : Option ℕ) (i : ℕ) (raw : List ℕ) (e : Export) → raw ≡ raw_export b i
    → Ok e ≡ check_export_of h before i raw → Some e.symbol ≡ symbol_before b (i + 1)
symbol_after b h before i raw e there result =
    let said = export_said h before i raw e (sym result) in
    rw (add-one, said, there) refl

-- ---- relocations

-- a relocation of a type that there is, with all tests passed
accepted : (h : Header) (before : Option Reloc) (i : ℕ) (raw field : List ℕ) (kind : Option RelocType) (r : Reloc)
    → reloc_in h before i raw field kind ≡ Ok r → r ≡ reloc_with raw (unwrap_or kind Abs32)
accepted h before i raw field None r here = absurd cc
accepted h before i raw field (Some kind) x here =
    let r = reloc_with raw kind in
    let place = past (not (has_place h raw r)) _ (RelocPlace i) _ here in
    let order = past (not (is_behind before r)) _ (RelocOrder i) _ place in
    let target = past (not (has_target r)) _ (Target i) _ order in
    past_value (not (is_clear kind field)) r (FieldNotZero i) _ target

-- a relocation that the check accepts is the one that the bytes say
pub reloc_said : (h : Header) (before : Option Reloc) (i : ℕ) (raw field : List ℕ) (r : Reloc) → check_reloc_of h before i raw field ≡ Ok r → r ≡ reloc_of raw
reloc_said h before i raw field r here = accepted h before i raw field (kind_of (get_or raw 3 0)) r here

-- the bytes of a field count only where it lies in its part
field_counts : (b : List ℕ) (before : Option Reloc) (i : ℕ) (raw : List ℕ) (kind : Option RelocType)
    → reloc_in (header_of b) before i raw (spanned_field b (span_in (header_of b) raw kind)) kind ≡ reloc_in (header_of b) before i raw (raw_field b (reloc_with raw (unwrap_or kind Abs32))) kind
field_counts b before i raw None = refl
field_counts b before i raw (Some kind) =
    elim (cases_Bool (has_place_byte raw && is_inside (header_of b) (reloc_with raw kind))) [ inl there ↦ rw there refl | inr elsewhere ↦ rw elsewhere refl ]

-- the step of a relocation finds its fault
pub reloc_step_is : (b : List ℕ) (i : ℕ) → reloc_step (header_of b) b i ≡ reloc_fault b i
reloc_step_is b i = let raw = raw_reloc b i in ap result_err (field_counts b (reloc_before b i) i raw (kind_of (get_or raw 3 0)))

-- the fault of a relocation, by what the check was given
pub reloc_fault_is : (b : List ℕ) (h : Header) (before : Option Reloc) (i : ℕ) (raw field : List ℕ) (r : Result Reloc PackageFault)
    → h ≡ header_of b → before ≡ reloc_before b i → raw ≡ raw_reloc b i → field ≡ spanned_field b (field_span_of h raw) → r ≡ check_reloc_of h before i raw field → reloc_fault b i ≡ result_err r
reloc_fault_is b h before i raw field r header former there span result =
    rw (result, span, header, former, there) (ap result_err (sym (field_counts b (reloc_before b i) i (raw_reloc b i) (kind_of (get_or (raw_reloc b i) 3 0)))))

-- the relocation before the next one
pub reloc_after : (b : List ℕ) (h : Header) (before : Option Reloc) (i : ℕ) (raw field : List ℕ) (r : Reloc) → raw ≡ raw_reloc b i
    → Ok r ≡ check_reloc_of h before i raw field → Some r ≡ reloc_before b (i + 1)
reloc_after b h before i raw field r there result =
    let said = reloc_said h before i raw field r (sym result) in
    rw (add-one, said, there) refl

-- the bytes of a field with zeros up to four
pub padded : (q : List ℕ) → length q ≤ 4 → get_or q 0 0 ∷ get_or q 1 0 ∷ get_or q 2 0 ∷ get_or q 3 0 ∷ [] ≡ q ++ replicate (4 - length q) 0
padded [] short = refl
padded (x ∷ []) short = refl
padded (x ∷ y ∷ []) short = refl
padded (x ∷ y ∷ z ∷ []) short = refl
padded (x ∷ y ∷ z ∷ u ∷ []) short = refl
padded (x ∷ y ∷ z ∷ u ∷ v ∷ q) short = absurd (omega arith)

-- ---- the whole

-- no fault in any part
pub faultless_parts : (b : List ℕ) → header_fault b (length b) ≡ None → exports_fault b ≡ None → relocs_fault b ≡ None → package_fault b ≡ None
faultless_parts b header exports relocs = rw (header, exports, relocs) refl
