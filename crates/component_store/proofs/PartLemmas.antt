-- The components of a set that slots hold.
use Rattle.std.proofs.Common.{◌≡◌, ℕ, zero, suc, ◌+◌, ◌-◌, ◌%◌, ◌<◌, ◌≤◌, Bool, true, false, cond, eqb, Option, Some, None, Result, Ok, Err, List, [], ◌∷◌, length, take, drop, map, get_or, refl, sym, ap, ◌∙◌, arith, slice_range}
use Rattle.std.specs.Prelude.{slice_get, not, nat_le, ◌&&◌, unwrap_or}
use Rattle.std.specs.List.{list_all}
use Rattle.std.specs.Option.{option_or, option_map, option_and_then}
use Rattle.std.specs.Result.{result_err}
use Rattle.std.proofs.lemmas.Bool.{and_parts}
use Rattle.std.proofs.lemmas.Option.{same_Some, slice_get-get_or}
use Rattle.std.proofs.lemmas.List.{take-take, drop-take, drop-drop}
use Rattle.avr_reloc.specs.declared.kind.RelocType.{RelocType}
use Rattle.avr_reloc.specs.declared.kind.RelocType.TheVariants.{Abs32}
use Rattle.avr_reloc.specs.declared.kind.Shape.{Shape}
use Rattle.avr_reloc.specs.declared.kind.Shape.TheVariants as shapes
use Rattle.avr_reloc.specs.Kind.{shape_of, mask_of, kind_of}
use Rattle.avr_reloc.specs.Field.{masked}
use Rattle.flash_pages.specs.State.{State}
use Rattle.component_package.specs.declared.part.Header.{Header}
use Rattle.component_package.specs.declared.part.Export.{Export}
use Rattle.component_package.specs.declared.part.Reloc.{Reloc}
use Rattle.component_package.specs.declared.fault.PackageFault.{PackageFault}
use Rattle.component_package.specs.packages.Component.{Component}
use Rattle.component_package.specs.packages.Reading.{first_fault, header_of, total_of, package_fault, number_of_fault, component_of, check_export_of, export_in, export_of, place_of, is_above, check_reloc_of, reloc_in, reloc_with, reloc_of, has_place, is_behind, has_target, is_clear}
use Rattle.component_package.specs.packages.Numbers.{u16_at}
use Rattle.component_package.specs.declared.fault.PackageFault.TheVariants.{ExportOrder, RelocPlace, RelocOrder, Target, FieldNotZero}
use Rattle.component_package.specs.packages.Manifest.{Placed, stored_of}
use Rattle.component_package.specs.mote.Store.{slots_of, package_in, stored_fault, identity_fault, missing_at, bad_package_at, BadPackage}
use Rattle.component_package.proofs.First.{none_or, no_fault, chosen, spared}
use Rattle.component_package.proofs.Steps.{export_said}
use Rattle.component_package.proofs.StoredLemmas.{length-pairs, the_placed}
use Rattle.component_store.specs.declared.set.StoredSet.{StoredSet}
use Rattle.component_store.specs.Reader.{held_bytes, held_package}
use Rattle.component_store.specs.Sets.{IsSet, HoldsSet, HasRooms, IsComponentOf, header_at, part_of, length_of_part}
use Rattle.component_store.proofs.OpenLemmas.{no_entry, entry_of, is_entry, package_is}

-- the component in a slot, by its header
pub record IsHeld (s : State) (slot : ℕ) (h : Header) (c : Component) : Type 0 where
  pub header : h ≡ header_of (held_package s slot h)
  pub sound : package_fault (held_package s slot h) ≡ None
  pub component : c ≡ component_of (held_package s slot h)

mapped : {X Y : Type 0} (f : X → Y) (xs : List X) (k : ℕ) (x : X) → slice_get xs k ≡ Some x → slice_get (map f xs) k ≡ Some (f x)
mapped f [] k x at = absurd cc
mapped f (y ∷ ys) zero x at = let e : y ≡ x = cc in ap (λ z. Some (f z)) e
mapped f (y ∷ ys) (suc k) x at = mapped f ys k x at

no_bad : (k : ℕ) (o : Option ℕ) → option_map (BadPackage k) o ≡ None → o ≡ None
no_bad k None e = refl
no_bad k (Some n) e = absurd cc

no_number : (o : Option PackageFault) (p : Option ℕ) → option_or (option_map number_of_fault o) p ≡ None → o ≡ None
no_number None p e = refl
no_number (Some f) p e = absurd cc

-- the total length of a header that fits its entry
pub fits_slot : (set : StoredSet) (k : ℕ) → IsSet set → HasRooms set → k < set.slots.manifest.count → total_of (header_at set k) ≤ 9984
fits_slot set k is rooms lt =
    let few = is.manifest.count in
    let at = is_entry set.slots k is.manifest rooms.entries rooms.slots lt in
    let none : Header = record { component = 0; version = 0; code = 0; init = 0; bss = 0; exports = 0; relocs = 0 } in
    let head = slice_get-get_or set.headers k none (omega (arith, rooms.headers)) in
    let entry = slice_get-get_or set.slots.manifest.entries k no_entry (omega (arith, rooms.entries)) in
    omega (arith, (is.headers k (get_or set.headers k none) (get_or set.slots.manifest.entries k no_entry) lt head entry).total, at.entry.most)

-- component k of a set that the board holds
pub held_component : (s : State) (set : StoredSet) (k : ℕ) (c : Component) → IsSet set → HasRooms set → k < set.slots.manifest.count → HoldsSet s set → IsComponentOf s set k c
    → IsHeld s (get_or set.slots.slots k 0) (header_at set k) c
held_component s set k c is rooms lt holds component =
    let few = is.manifest.count in
    let m = set.slots in
    let at = is_entry m k is.manifest rooms.entries rooms.slots lt in
    let p : Placed = entry_of m k in
    let none : Header = record { component = 0; version = 0; code = 0; init = 0; bss = 0; exports = 0; relocs = 0 } in
    let h : Header = get_or set.headers k none in
    let head = slice_get-get_or set.headers k none (omega (arith, rooms.headers)) in
    let entry = slice_get-get_or m.manifest.entries k no_entry (omega (arith, rooms.entries)) in
    let total : total_of h ≡ p.entry.length = (is.headers k h (get_or m.manifest.entries k no_entry) lt head entry).total in
    let there : package_in (slots_of s.ext) p ≡ held_package s p.slot h = package_is s p at.slot ∙ ap (held_bytes s p.slot) (sym total) in
    let count = length-pairs (λ x. the_placed x) m.manifest.entries m.slots m.manifest.count (omega (arith, rooms.entries)) (omega (arith, rooms.slots)) in
    let faults = none_or (first_fault (missing_at (slots_of s.ext) (stored_of m)) (length (stored_of m).placed)) (first_fault (bad_package_at (slots_of s.ext) (stored_of m)) (length (stored_of m).placed)) holds.whole in
    let good : bad_package_at (slots_of s.ext) (stored_of m) k ≡ None = no_fault (bad_package_at (slots_of s.ext) (stored_of m)) (length (stored_of m).placed) k faults.1 (omega (arith, count)) in
    let no_one : stored_fault p.entry (package_in (slots_of s.ext) p) ≡ None =
    no_bad k (stored_fault p.entry (package_in (slots_of s.ext) p)) (sym (ap (option_and_then (λ (q : Placed). option_map (BadPackage k) (stored_fault q.entry (package_in (slots_of s.ext) q)))) at.here) ∙ good) in
    record {
      header = holds.headers k h p lt head at.here ∙ ap header_of there;
      sound = ap package_fault (sym there) ∙ no_number (package_fault (package_in (slots_of s.ext) p)) (identity_fault p.entry (package_in (slots_of s.ext) p)) no_one;
      component = same_Some c _ (sym component ∙ mapped (λ (q : Placed). component_of (package_in (slots_of s.ext) q)) (stored_of m).placed k p at.here) ∙ ap component_of there;
    }

-- ---- records, whatever comes before them

ok_of : {A F : Type 0} (r : Result A F) → result_err r ≡ None → (a : A) × (r ≡ Ok a)
ok_of (Ok a) e = (a, refl)
ok_of (Err f) e = absurd cc

-- an export without a fault is one without another before it too
pub export_alone : (h : Header) (before : Option ℕ) (i : ℕ) (raw : List ℕ) → result_err (check_export_of h before i raw) ≡ None → check_export_of h None i raw ≡ Ok (export_of raw)
export_alone h before i raw none =
    let symbol : ℕ = u16_at raw 0 in
    let rest : Result Export PackageFault = export_in h i raw (place_of (get_or raw 2 0 % 128)) in
    let parts = chosen (nat_le 16 symbol && is_above before symbol) rest (ExportOrder i) none in
    let least : nat_le 16 symbol ≡ true = (and_parts (nat_le 16 symbol) (is_above before symbol) parts.0).0 in
    let ok = ok_of rest parts.1 in
    let here : check_export_of h None i raw ≡ Ok ok.0 = ap (λ (t : Bool). cond (t && true) rest (Err (ExportOrder i))) least ∙ ok.1 in
    here ∙ ap (λ (e : Export). Ok e) (export_said h None i raw ok.0 here)

abbrev pub no_field : List ℕ
no_field = 0 ∷ 0 ∷ 0 ∷ 0 ∷ []

clear : (s : Shape) → list_all (λ x. eqb x 0) (masked no_field (mask_of s)) ≡ true
clear shapes.Byte = refl
clear shapes.Word = refl
clear shapes.Long = refl
clear shapes.Immediate = refl
clear shapes.Branch = refl
clear shapes.Jump = refl
clear shapes.Call = refl
clear shapes.Displacement = refl
clear shapes.Adiw = refl

alone : (h : Header) (before : Option Reloc) (i : ℕ) (raw field : List ℕ) (kind : Option RelocType) → result_err (reloc_in h before i raw field kind) ≡ None
    → reloc_in h None i raw no_field kind ≡ Ok (reloc_with raw (unwrap_or kind Abs32))
alone h before i raw field None none = absurd cc
alone h before i raw field (Some kind) none =
    let r = reloc_with raw kind in
    let place = spared (not (has_place h raw r)) _ (RelocPlace i) none in
    let order = spared (not (is_behind before r)) _ (RelocOrder i) place.1 in
    let target = spared (not (has_target r)) _ (Target i) order.1 in
    let empty : is_clear kind no_field ≡ true = clear (shape_of kind) in
    ap (λ (t : Bool). cond t (Err (RelocPlace i)) (cond (not (has_target r)) (Err (Target i)) (cond (not (is_clear kind no_field)) (Err (FieldNotZero i)) (Ok r)))) place.0
    ∙ ap (λ (t : Bool). cond t (Err (Target i)) (cond (not (is_clear kind no_field)) (Err (FieldNotZero i)) (Ok r))) target.0
    ∙ ap (λ (t : Bool). cond (not t) (Err (FieldNotZero i)) (Ok r)) empty

-- a relocation without a fault is one without another before it and with an empty field too
pub reloc_alone : (h : Header) (before : Option Reloc) (i : ℕ) (raw field : List ℕ) → result_err (check_reloc_of h before i raw field) ≡ None → check_reloc_of h None i raw no_field ≡ Ok (reloc_of raw)
reloc_alone h before i raw field none = alone h before i raw field (kind_of (get_or raw 3 0)) none

-- ---- bytes of a part

slice_in_slice : (b : List ℕ) (p l from n : ℕ) → from + n ≤ l → slice_range (slice_range b p (p + l)) from (from + n) ≡ slice_range b (p + from) (p + from + n)
slice_in_slice b p l from n within =
    let e0 : from + n - from ≡ n = omega arith in
    let e1 : p + l - p ≡ from + (l - from) = omega arith in
    let e2 : p + from + n - (p + from) ≡ n = omega arith in
    ap (λ (k : ℕ). take k (drop from (take (p + l - p) (drop p b)))) e0 ∙ ap (λ (k : ℕ). take n (drop from (take k (drop p b)))) e1
    ∙ ap (take n) (drop-take from (l - from) (drop p b)) ∙ take-take n (l - from) (drop from (drop p b)) (omega arith)
    ∙ ap (take n) (drop-drop from p b) ∙ ap (λ (k : ℕ). take k (drop (p + from) b)) (sym e2)

-- they are the package's behind its header
pub part_is : (b : List ℕ) (h : Header) (in_init : Bool) (from n : ℕ) → h ≡ header_of b → from + n ≤ length_of_part h in_init
    → slice_range (part_of (component_of b) in_init) from (from + n) ≡ slice_range b (32 + cond in_init h.code 0 + from) (32 + cond in_init h.code 0 + from + n)
part_is b h true from n header within =
    let init : h.init ≡ (header_of b).init = ap (λ (k : Header). k.init) header in
    let code : h.code ≡ (header_of b).code = ap (λ (k : Header). k.code) header in
    slice_in_slice b (32 + (header_of b).code) (header_of b).init from n (omega arith) ∙ ap (λ (k : ℕ). slice_range b (32 + k + from) (32 + k + from + n)) (sym code)
part_is b h false from n header within =
    let code : h.code ≡ (header_of b).code = ap (λ (k : Header). k.code) header in
    slice_in_slice b 32 (header_of b).code from n (omega arith)

-- and lie in it
pub part_within : (h : Header) (in_init : Bool) (from n : ℕ) → from + n ≤ length_of_part h in_init → 32 + cond in_init h.code 0 + from + n ≤ total_of h
part_within h true from n within = omega arith
part_within h false from n within = omega arith
