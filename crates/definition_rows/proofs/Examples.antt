-- Worked examples of the definitions, checked by computing.
use Rattle.std.proofs.Common.{◌≡◌, ℕ, ◌<◌, Bool, true, false, eqb, pos, Some, None, List, [], ◌∷◌, ◌++◌, length, take, drop, refl, sym, ◌∙◌, inl, inr, arith, replicate, subst}
use Rattle.std.specs.Prelude.{◌||◌, slice_index, nat_lt}
use Rattle.std.specs.List.{list_any, list_all, AllByRecursion}
use Rattle.std.specs.Option.{option_map}
use Rattle.std.proofs.lemmas.List.{get_or_past}
use Rattle.std.proofs.lemmas.Bool.{agree_below, agree_below_at, eqb-true, cases_lt, false≢true}
use Rattle.std.proofs.lemmas.List.Folds.{list_all_at}
use Rattle.std.proofs.lemmas.Bool.Decides.{nat_tests}
use Rattle.avr_reloc.specs.declared.kind.RelocType.TheVariants as kinds
use Rattle.avr_reloc.specs.declared.fixup.Fixup.{Fixup}
use Rattle.avr_reloc.specs.Field.{AreBytes}
use Rattle.avr_reloc.specs.Fixups.{HasField, covers}
use Rattle.component_package.specs.declared.fault.PackageFault.TheVariants.{Short, Length, FieldNotZero}
use Rattle.component_package.specs.declared.part.Place.TheVariants as places
use Rattle.component_package.specs.declared.part.Export.{Export}
use Rattle.component_package.specs.declared.part.Reloc.{Reloc}
use Rattle.component_package.specs.packages.Component.{Component, spelling}
use Rattle.component_package.specs.packages.Reading.{component_of, package_fault, field_span_of, header_of, raw_reloc}
use Rattle.component_package.specs.link.Link.{link_cause, definition_of, plain_of, IsImage, fixups_of, Undefined, Duplicate, RamFull, FlashFull}
use Rattle.component_package.specs.link.Areas.{entries_of, symbols_of_area, list_bytes, symbol_bytes}
use Rattle.component_package.specs.link.Pages.{listed, merged}

abbrev zeros : List ℕ
zeros = replicate 14 0

abbrev p : List ℕ
p = 0x46 ∷ 0x43 ∷ 0x50 ∷ 0x31 ∷ 1 ∷ 0 ∷ 1 ∷ 0 ∷ 6 ∷ 0 ∷ 0 ∷ 0 ∷ 0 ∷ 0 ∷ 0 ∷ 0 ∷ 1 ∷ 0 ∷ (zeros ++ 0x0E ∷ 0x94 ∷ 0 ∷ 0 ∷ 0xFF ∷ 0xCF ∷ 0 ∷ 0 ∷ 0 ∷ 0x12 ∷ 0x10 ∷ 0 ∷ 0 ∷ 0 ∷ [])

abbrev q : List ℕ
q = 0x46 ∷ 0x43 ∷ 0x50 ∷ 0x31 ∷ 2 ∷ 0 ∷ 1 ∷ 0 ∷ 2 ∷ 0 ∷ 0 ∷ 0 ∷ 0 ∷ 0 ∷ 1 ∷ 0 ∷ 0 ∷ 0 ∷ (zeros ++ 0x08 ∷ 0x95 ∷ 0x10 ∷ 0 ∷ 0 ∷ 0 ∷ 0 ∷ 0 ∷ [])

p_sound : package_fault p ≡ None
p_sound = refl

q_sound : package_fault q ≡ None
q_sound = refl

p_cut : package_fault (take 45 p) ≡ Some Length
p_cut = refl

-- a value bit of the field that is 1
p_not_zero : package_fault (take 34 p ++ 1 ∷ drop 35 p) ≡ Some (FieldNotZero 0)
p_not_zero = refl

p_short : package_fault (take 31 p) ≡ Some Short
p_short = refl

-- the field of P's relocation stands at byte 32 and has four bytes
p_span : field_span_of (header_of p) (raw_reloc p 0) ≡ Some (32, 4)
p_span = refl

p_spelled : spelling (component_of p) ≡ p
p_spelled = refl

q_spelled : spelling (component_of q) ≡ q
q_spelled = refl

abbrev set : List Component
set = component_of p ∷ component_of q ∷ []

possible : link_cause set ≡ None
unfolding link_cause
possible = refl

undefined : link_cause (component_of p ∷ []) ≡ Some (Undefined 0 0 16)
unfolding link_cause
undefined = refl

abbrev image : List ℕ
image = 0x0E ∷ 0x94 ∷ 0x03 ∷ 0x00 ∷ 0xFF ∷ 0xCF ∷ 0x08 ∷ 0x95 ∷ []

-- bytes, by trying each
pub bytes_by_test : (b : List ℕ) → list_all (λ x. nat_lt x 256) b ≡ true → AreBytes b
bytes_by_test b e i = elim (cases_lt i (length b)) [
  | inl within ↦ elim (cases_lt (slice_index b i) 256) [
    | inl small ↦ small
    | inr great ↦ absurd (false≢true (sym (list_all_at (λ x. nat_lt x 256) b i 0 within (let r = great in grind (arith, nat_tests))) ∙ e))
  ]
  | inr past ↦ subst (λ n. n < 256) (sym (get_or_past b i 0 past)) (omega arith)
]

-- bytes in no field, by trying each place
plain_by_test : (xs : List Fixup) (old new : List ℕ) → agree_below (λ at. list_any (covers at) xs || eqb (slice_index new at) (slice_index old at)) (λ at. true) (length new) ≡ true → length new ≡ length old
    → (at : ℕ) → list_any (covers at) xs ≡ false → slice_index new at ≡ slice_index old at
plain_by_test xs old new e same at free =
    elim (cases_lt at (length new)) [
      | inl lt ↦ let t = agree_below_at (λ at. list_any (covers at) xs || eqb (slice_index new at) (slice_index old at)) (λ at. true) (length new) at e lt in eqb-true _ _ (rw free at t)
      | inr le ↦ get_or_past new at 0 le ∙ sym (get_or_past old at 0 (omega arith))
    ]

-- the image of a set with one relocation, by computing
pub by_trying : (set : List Component) (b : List ℕ) → link_cause set ≡ None → length b ≡ length (plain_of set)
    → agree_below (λ at. list_any (covers at) (fixups_of set) || eqb (slice_index b at) (slice_index (plain_of set) at)) (λ at. true) (length b) ≡ true
    → list_all (λ x. nat_lt x 256) b ≡ true → AllByRecursion (HasField (plain_of set) b) (fixups_of set) → IsImage set b
by_trying set b possible size each small fields = record { possible = possible; bytes = bytes_by_test b small; put = record { size = size; plain = plain_by_test (fixups_of set) (plain_of set) b each size; fields = fields } }

row : IsImage set image
unfolding link_cause
row = by_trying set image refl refl refl refl (record { possible = refl; width = refl; outside = refl; inside = refl }, tt)

-- a component by its code, exports and relocations
abbrev simple : ℕ → List ℕ → List Export → List Reloc → Component
simple n code exports relocs = record { component = n; version = 1; code = code; init = []; bss = 0; exports = exports; relocs = relocs }

abbrev export_20 : Bool → Export
export_20 weak = record { symbol = 20; place = places.Code; weak = weak; value = 0 }

abbrev call_20 : Bool → Reloc
call_20 weak = record { offset = 0; in_init = false; weak = weak; kind = kinds.Call; target = 20; addend = pos 0 }

abbrev ret : List ℕ
ret = 0x08 ∷ 0x95 ∷ []

abbrev call : List ℕ
call = 0x0E ∷ 0x94 ∷ 0 ∷ 0 ∷ []

abbrev three : Bool → Bool → List Component
three first last = simple 1 ret (export_20 first ∷ []) [] ∷ simple 2 call [] (call_20 false ∷ []) ∷ simple 3 ret (export_20 last ∷ []) [] ∷ []

strong_wins : IsImage (three true false) (0x08 ∷ 0x95 ∷ 0x0E ∷ 0x94 ∷ 0x03 ∷ 0 ∷ 0x08 ∷ 0x95 ∷ [])
unfolding link_cause
strong_wins = by_trying (three true false) (0x08 ∷ 0x95 ∷ 0x0E ∷ 0x94 ∷ 0x03 ∷ 0 ∷ 0x08 ∷ 0x95 ∷ []) refl refl refl refl (record { possible = refl; width = refl; outside = refl; inside = refl }, tt)

first_weak_wins : IsImage (three true true) (0x08 ∷ 0x95 ∷ 0x0E ∷ 0x94 ∷ 0 ∷ 0 ∷ 0x08 ∷ 0x95 ∷ [])
unfolding link_cause
first_weak_wins = by_trying (three true true) (0x08 ∷ 0x95 ∷ 0x0E ∷ 0x94 ∷ 0 ∷ 0 ∷ 0x08 ∷ 0x95 ∷ []) refl refl refl refl (record { possible = refl; width = refl; outside = refl; inside = refl }, tt)

duplicate : link_cause (three false false) ≡ Some (Duplicate 20 0 2)
unfolding link_cause
duplicate = refl

ram_full : link_cause (record { component = 1; version = 1; code = []; init = 0 ∷ 0 ∷ []; bss = 3584; exports = []; relocs = [] } ∷ []) ≡ Some (RamFull 3586)
unfolding link_cause
ram_full = refl

flash_full : link_cause (simple 1 (replicate 7682 0) [] [] ∷ replicate 15 (simple 2 (replicate 7680 0) [] [])) ≡ Some (FlashFull 122882)
unfolding link_cause
flash_full = refl

-- a weak reference to a symbol that no component exports is to 0, a strong one refuses the set
abbrev alone : Bool → List Component
alone weak = simple 1 ret [] [] ∷ simple 2 call [] (call_20 weak ∷ []) ∷ simple 3 ret [] [] ∷ []

weak_is_zero : IsImage (alone true) (0x08 ∷ 0x95 ∷ 0x0E ∷ 0x94 ∷ 0 ∷ 0 ∷ 0x08 ∷ 0x95 ∷ [])
unfolding link_cause
weak_is_zero = by_trying (alone true) (0x08 ∷ 0x95 ∷ 0x0E ∷ 0x94 ∷ 0 ∷ 0 ∷ 0x08 ∷ 0x95 ∷ []) refl refl refl refl (record { possible = refl; width = refl; outside = refl; inside = refl }, tt)

strong_is_undefined : link_cause (alone false) ≡ Some (Undefined 1 0 20)
unfolding link_cause
strong_is_undefined = refl

-- two strong exports come before an undefined symbol
duplicate_first : link_cause (simple 1 ret (export_20 false ∷ []) [] ∷ simple 2 call [] (record { offset = 0; in_init = false; weak = false; kind = kinds.Call; target = 99; addend = pos 0 } ∷ []) ∷ simple 3 ret (export_20 false ∷ []) [] ∷ []) ≡ Some (Duplicate 20 0 2)
unfolding link_cause
duplicate_first = refl

-- the order of the set is the order of the image
other_order : IsImage (component_of q ∷ component_of p ∷ []) (0x08 ∷ 0x95 ∷ 0x0E ∷ 0x94 ∷ 0 ∷ 0 ∷ 0xFF ∷ 0xCF ∷ [])
unfolding link_cause
other_order = by_trying (component_of q ∷ component_of p ∷ []) (0x08 ∷ 0x95 ∷ 0x0E ∷ 0x94 ∷ 0 ∷ 0 ∷ 0xFF ∷ 0xCF ∷ []) refl refl refl refl (record { possible = refl; width = refl; outside = refl; inside = refl }, tt)

-- data and bss up to the last byte of RAM
ram_fits : link_cause (record { component = 1; version = 1; code = []; init = 0 ∷ 0 ∷ []; bss = 3582; exports = []; relocs = [] } ∷ []) ≡ None
unfolding link_cause
ram_fits = refl

-- ---- areas

abbrev call_to : ℕ → List Fixup
call_to n = record { place = 0; kind = kinds.Call; s_plus_a = pos n } ∷ []

-- the record of the set's own symbol, and of its own relocation
own_symbol : option_map (λ x. symbol_bytes (merged set x)) (definition_of set 16) ≡ Some (0x10 ∷ 0 ∷ 1 ∷ 0 ∷ 6 ∷ 0 ∷ 0 ∷ 0 ∷ [])
own_symbol = refl

own_list : listed set (record { symbol = 16; exporter = 1; place = places.Code; address = 6 } ∷ []) ≡ call_to 6
own_list = refl

-- a table that is not the set's, and the list that it gives
other_table : symbols_of_area (0x10 ∷ 0 ∷ 1 ∷ 0 ∷ 8 ∷ 0 ∷ 0 ∷ 0 ∷ replicate 8184 255) ≡ record { symbol = 16; exporter = 1; place = places.Code; address = 8 } ∷ []
unfolding symbols_of_area
other_table = refl

other_list : listed set (record { symbol = 16; exporter = 1; place = places.Code; address = 8 } ∷ []) ≡ call_to 8
other_list = refl

other_bytes : take 9 (list_bytes (call_to 8)) ≡ 0 ∷ 0 ∷ 0 ∷ 0x12 ∷ 8 ∷ 0 ∷ 0 ∷ 0 ∷ 255 ∷ []
other_bytes = refl

-- a list that is not the set's
other_entries : entries_of (0 ∷ 0 ∷ 0 ∷ 0x12 ∷ 0x0A ∷ 0 ∷ 0 ∷ 0 ∷ replicate 65528 255) ≡ call_to 10
unfolding entries_of
other_entries = refl

-- a call across the end of a page
across_entry : take 8 (list_bytes (record { place = 254; kind = kinds.Call; s_plus_a = pos 0x1234 } ∷ [])) ≡ 0xFE ∷ 0 ∷ 0 ∷ 0x12 ∷ 0x34 ∷ 0x12 ∷ 0 ∷ 0 ∷ []
across_entry = refl
