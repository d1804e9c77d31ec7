-- A set's image and pages: where there are some, and that there are no others.
use Rattle.std.proofs.Common.{◌≡◌, ℕ, ◌-◌, ◌<◌, ◌≤◌, inl, inr, List, [], ◌∷◌, ◌++◌, length, replicate, map, Option, Some, None, pos, refl, sym, ap, subst, ◌∙◌, arith, length-append}
use Rattle.std.specs.Prelude.{◌+ℤ◌, unwrap_or, not, nat_lt, Bool, true, false}
use Rattle.std.specs.Option.{option_map, option_or}
use Rattle.std.specs.List.{filter, AllByRecursion, flat_map}
use Rattle.std.proofs.lemmas.Bool.{cases_lt, ltb-false}
use Rattle.std.proofs.lemmas.List.{get_or_past, length-map, length-replicate, get_or-replicate}
use Rattle.std.proofs.lemmas.List.Filters.{length-filter_both}
use Rattle.std.proofs.lemmas.List.Elements.{All-from_recursion}
use Rattle.std.proofs.lemmas.List.Concat.{flat_map-cons}
use Rattle.std.proofs.Math.ListN.{get_or-append}
use Rattle.std.proofs.Math.Seq.{get_or-append_right}
use Rattle.avr_reloc.specs.declared.fixup.Fixup.{Fixup}
use Rattle.avr_reloc.specs.Kind.{fault_of}
use Rattle.avr_reloc.specs.Field.{AreBytes}
use Rattle.avr_reloc.specs.Fixups.{end_of, AreApart, CanBePut}
use Rattle.avr_reloc.proofs.Exists.{PairsApart, AllPairs-from_apart, exists}
use Rattle.avr_reloc.proofs.Fixups.{ArePut-same}
use Rattle.component_package.specs.declared.part.Site.{Site}
use Rattle.component_package.specs.packages.Component.{Component}
use Rattle.component_package.specs.packages.Grammar.{IsComponent}
use Rattle.component_package.specs.link.Link.{Cause, Relocations, fixup_with, above, link_cause, room_cause, symbols_cause, relocations_cause, duplicate_cause, sites_cause, first_cause, site_cause, range_cause, rooms_of, sites_of, target_of, place_of_site, fixup_of, fixups_of, plain_of, IsImage}
use Rattle.component_package.specs.link.Areas.{MergedSymbol, IsSymbol, FieldsRise, list_bytes, Lists}
use Rattle.component_package.specs.link.Pages.{IsTableOf, address_in, listed, padded, cut, Fits, IsPatched, IsPages, in_image_order}
use Rattle.component_package.specs.link.Sets.{IsSet}
use Rattle.link_laws.specs.Laws.{SomeImage, SomePages}
use Rattle.link_laws.proofs.Apart.{all_at_place, in_order, fields_of_set_apart}
use Rattle.link_laws.proofs.Law.{all_ordered, image_patched, patched_pages, same_list}
use Rattle.link_laws.proofs.Listed.{listed_rises}
use Rattle.link_laws.proofs.Room.{IsSite, all_sites, site_inside, room_from_cause, entries_have_room, table_has_room}

-- ---- Bytes

-- bytes before bytes
append_bytes : (a b : List ℕ) → AreBytes a → AreBytes b → AreBytes (a ++ b)
append_bytes a b p q i =
    elim (cases_lt i (length a)) [
      | inl lt ↦ subst (λ (n : ℕ). n < 256) (sym (get_or-append a b 0 i lt)) (p i)
      | inr le ↦ subst (λ (n : ℕ). n < 256) (sym (get_or-append_right a b i 0 le)) (q (i - length a))
    ]

-- a part of all components is bytes
parts_bytes : (f : Component → List ℕ) → ((c : Component) → IsComponent c → AreBytes (f c)) → (cs : List Component) → AllByRecursion IsComponent cs → AreBytes (flat_map f cs)
parts_bytes f each [] all = λ i. omega arith
parts_bytes f each (c ∷ cs) all = subst AreBytes (sym (flat_map-cons f c cs)) (append_bytes (f c) (flat_map f cs) (each c all.0) (parts_bytes f each cs all.1))

-- code and data are bytes
pub plain_bytes : (set : List Component) → AllByRecursion IsComponent set → AreBytes (plain_of set)
plain_bytes set all =
    append_bytes (flat_map (λ c. c.code) set) (flat_map (λ c. c.init) set) (parts_bytes (λ c. c.code) (λ c is. is.code) set all) (parts_bytes (λ c. c.init) (λ c is. is.init) set all)

-- 0xFF is a byte
blank_bytes : (n : ℕ) → AreBytes (replicate n 255)
blank_bytes n i =
    elim (cases_lt i n) [
      | inl lt ↦ subst (λ (b : ℕ). b < 256) (sym (get_or-replicate {A = ℕ} n i 255 0 lt)) (omega arith)
      | inr past ↦ subst (λ (b : ℕ). b < 256) (sym (get_or_past (replicate {A = ℕ} n 255) i 0 (omega (arith, past, length-replicate {A = ℕ} n 255)))) (omega arith)
    ]

-- padded bytes are bytes
pub padded_bytes : (b : List ℕ) → AreBytes b → AreBytes (padded b)
padded_bytes b bytes = append_bytes b (replicate (122880 - length b) 255) bytes (blank_bytes (122880 - length b))

-- ---- No cause

-- none of two
none_both : {X : Type 0} (a b : Option X) → option_or a b ≡ None → (a ≡ None) × (b ≡ None)
none_both None b e = (refl, e)
none_both (Some x) b e = absurd cc

-- the five kinds of causes, none of which holds
pub record NoCause (set : List Component) : Type 0 where
  pub room : room_cause (rooms_of set) ≡ None
  pub symbols : symbols_cause set ≡ None
  pub relocations : relocations_cause set ≡ None
  pub duplicate : duplicate_cause set ≡ None
  pub sites : sites_cause set ≡ None

-- where there is no cause, there is none of any kind
pub no_cause : (set : List Component) → link_cause set ≡ None → NoCause set
unfolding link_cause
no_cause set e =
    let a = none_both (room_cause (rooms_of set)) _ e in
    let b = none_both (symbols_cause set) _ a.1 in
    let c = none_both (relocations_cause set) _ b.1 in
    let d = none_both (duplicate_cause set) (sites_cause set) c.1 in
    record { room = a.0; symbols = b.0; relocations = c.0; duplicate = d.0; sites = d.1 }

-- where there is no first cause, there is none at any relocation
no_first : (f : Site → Option Cause) (xs : List Site) → first_cause f xs ≡ None → AllByRecursion (λ x. f x ≡ None) xs
no_first f [] e = tt
no_first f (x ∷ xs) e = let both = none_both (f x) (first_cause f xs) e in (both.0, no_first f xs both.1)

-- a mapped none
map_none : {X Y : Type 0} (f : X → Y) (o : Option X) → option_map f o ≡ None → o ≡ None
map_none f None e = refl
map_none f (Some x) e = absurd cc

-- where there is no fault at a relocation, its field can hold the value
range_none : (set : List Component) (x : Site) (o : Option ℕ) → range_cause set x o ≡ None → fault_of x.reloc.kind (pos (unwrap_or o 0) +ℤ x.reloc.addend) (pos (place_of_site set x)) ≡ None
range_none set x None e = absurd cc
range_none set x (Some s) e = map_none _ (fault_of x.reloc.kind (pos s +ℤ x.reloc.addend) (pos (place_of_site set x))) e

-- so can those of many
can_be_put : (set : List Component) (xs : List Site) → AllByRecursion (IsSite set) xs → AllByRecursion (λ x. site_cause set x ≡ None) xs → AllByRecursion (CanBePut (length (plain_of set))) (map (fixup_of set) xs)
can_be_put set [] are none = tt
can_be_put set (x ∷ xs) are none = (record { room = site_inside set x are.0; possible = range_none set x (target_of set x) none.0 }, can_be_put set xs are.1 none.1)

-- each field of a set without a fault at a relocation can be patched
pub fields_can_be_put : (set : List Component) → AllByRecursion IsComponent set → sites_cause set ≡ None → AllByRecursion (CanBePut (length (plain_of set))) (fixups_of set)
fields_can_be_put set components none = can_be_put set (sites_of set) (all_sites set components) (no_first (site_cause set) (sites_of set) none)

-- ---- The image

-- a set without a cause has an image
pub image_exists : (set : List Component) → IsSet set → link_cause set ≡ None → SomeImage set
image_exists set is none =
    let can = fields_can_be_put set is.components (no_cause set none).sites in
    let some = exists (fixups_of set) (plain_of set) (plain_bytes set is.components) (fields_of_set_apart set is.components) (All-from_recursion (CanBePut (length (plain_of set))) (fixups_of set) can) in
    record { image = some.new; is = record { possible = none; bytes = some.bytes; put = some.put } }

-- which is the only one
pub image_one : (set : List Component) (a b : List ℕ) → IsImage set a → IsImage set b → a ≡ b
image_one set a b p q = ArePut-same (fixups_of set) (plain_of set) a b p.bytes q.bytes p.put q.put

-- ---- Pages of any list

-- a field and those that begin behind it share no byte
later_apart : (x : Fixup) (low : ℕ) (ys : List Fixup) → end_of x ≤ low → FieldsRise low ys → AllByRecursion (AreApart x) ys
later_apart x low [] le rise = tt
later_apart x low (y ∷ ys) le rise = (inr (omega (arith, le, rise.0)), later_apart x (end_of y) ys (omega (arith, le, rise.0)) rise.1)

-- fields that rise share no byte
pub rise_apart : (low : ℕ) (xs : List Fixup) → FieldsRise low xs → PairsApart xs
rise_apart low [] rise = tt
rise_apart low (x ∷ xs) rise = (later_apart x (end_of x) xs (omega arith) rise.1, rise_apart (end_of x) xs rise.1)

-- fields that fit an image fit its pages
fit_padded : (plain : List ℕ) (xs : List Fixup) → AllByRecursion (CanBePut (length plain)) xs → AllByRecursion (CanBePut (length (padded plain))) xs
fit_padded plain [] fit = tt
fit_padded plain (x ∷ xs) fit = (record { room = omega (arith, fit.0.room, length-append plain (replicate {A = ℕ} (122880 - length plain) 255)); possible = fit.0.possible }, fit_padded plain xs fit.1)

-- a list that fits has pages
pub pages_exist : (set : List Component) (area : List ℕ) (xs : List Fixup) → IsSet set → Lists area xs → Fits set xs → SomePages set xs
pages_exist set area xs is l fit =
    let plain = plain_of set in
    let some = exists xs (padded plain) (padded_bytes plain (plain_bytes set is.components)) (AllPairs-from_apart xs (rise_apart 0 xs l.rise)) (All-from_recursion (CanBePut (length (padded plain))) xs (fit_padded plain xs fit)) in
    record { pages = cut some.new; are = record { whole = some.new; bytes = some.bytes; put = some.put; are = refl } }

-- which are the only ones
pub pages_one : (set : List Component) (xs : List Fixup) (p q : List (List ℕ)) → IsPatched set xs p → IsPatched set xs q → p ≡ q
pages_one set xs p q a b = a.are ∙ ap cut (ArePut-same xs (padded (plain_of set)) a.whole b.whole a.bytes b.bytes a.put b.put) ∙ sym b.are

-- ---- A set's own list

-- a set's list rises, whatever the table
pub rises : (set : List Component) (table : List MergedSymbol) → IsSet set → FieldsRise 0 (listed set table)
rises set table is = listed_rises _ set (all_at_place set) (in_order set is.components)

-- a list that is not too long is a relocation list
pub list_has_room : (set : List Component) (table : List MergedSymbol) → IsSet set → room_cause (rooms_of set) ≡ None → AllByRecursion IsSymbol table → length (listed set table) ≤ 8192
    → Lists (list_bytes (listed set table)) (listed set table)
list_has_room set table is none symbols few = record { few = few; entries = entries_have_room set table is.components (room_from_cause (rooms_of set) none) symbols; rise = rises set table is; spelled = refl }

-- image order keeps the length
ordered_length : (xs : List Site) → length (in_image_order xs) ≡ length xs
ordered_length xs =
    omega (
      arith,
      length-append (filter (λ x. not x.reloc.in_init) xs) (filter (λ x. x.reloc.in_init) xs),
      length-filter_both {X = Site} (λ x. x.reloc.in_init) (λ x. not x.reloc.in_init) (λ x. refl) xs,
    )

-- no cause above a limit
pub not_above : (limit : ℕ) (f : ℕ → Cause) (n : ℕ) (b : Bool) → nat_lt limit n ≡ b → above limit f n ≡ None → n ≤ limit
not_above limit f n true e none = absurd (let g = rw e at none in cc)
not_above limit f n false e none = ltb-false limit n e

-- a set without a cause has not too many relocations
few_sites : (set : List Component) → relocations_cause set ≡ None → length (sites_of set) ≤ 8192
few_sites set e = not_above 8192 Relocations (length (sites_of set)) _ refl e

-- a set's own list is a relocation list
pub own_list : (set : List Component) (table : List MergedSymbol) → IsSet set → link_cause set ≡ None → IsTableOf set table → Lists (list_bytes (listed set table)) (listed set table)
own_list set table is none t =
    let no = no_cause set none in
    list_has_room set table is no.room (table_has_room set table is no.room t) (omega (arith, few_sites set no.relocations, ordered_length (sites_of set), length-map (in_image_order (sites_of set)) (fixup_with (address_in table) set)))

-- a set's own list fits the set
pub own_list_fits : (set : List Component) (table : List MergedSymbol) → IsSet set → link_cause set ≡ None → IsTableOf set table → Fits set (listed set table)
own_list_fits set table is none t =
    let can = fields_can_be_put set is.components (no_cause set none).sites in
    subst (λ (xs : List Fixup). AllByRecursion (CanBePut (length (plain_of set))) xs) (sym (same_list set table t))
    (all_ordered (CanBePut (length (plain_of set))) (fixup_of set) (sites_of set) can)

-- the set's pages are patched from its list
pub pages_patched : (set : List Component) (table : List MergedSymbol) (pages : List (List ℕ)) → IsTableOf set table → IsPages set pages → IsPatched set (listed set table) pages
pages_patched set table pages t p = record { whole = padded p.image; bytes = padded_bytes p.image p.is.bytes; put = image_patched set table p.image t p.is; are = p.are }

-- and no others are
pub patched_are_pages : (set : List Component) (table : List MergedSymbol) (pages : List (List ℕ)) → IsSet set → link_cause set ≡ None → IsTableOf set table → IsPatched set (listed set table) pages → IsPages set pages
patched_are_pages set table pages is none t p =
    let some = image_exists set is none in
    record { image = some.image; is = some.is; are = p.are ∙ ap cut (patched_pages set table some.image p.whole t some.is (padded_bytes some.image some.is.bytes) p.bytes p.put) }
