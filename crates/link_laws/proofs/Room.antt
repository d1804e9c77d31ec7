-- The numbers of a set's list have room.
use Rattle.std.proofs.Common.{◌≡◌, ℕ, ◌+◌, ◌<◌, ◌≤◌, ◌^◌, inl, inr, Bool, true, false, cond, eqb, List, [], ◌∷◌, length, take, map, Option, Some, None, ℤ, pos, negsuc, refl, sym, ap, subst, ◌∙◌, arith, length-append}
use Rattle.std.specs.Prelude.{nat_lt, ◌+ℤ◌, unwrap_or, FitsSigned}
use Rattle.std.specs.Int.{w16, w32}
use Rattle.std.specs.Option.{option_map, option_or}
use Rattle.std.specs.List.{find, flat_map, enumerate_from, sum_by, AllByRecursion}
use Rattle.std.proofs.lemmas.Bool.{cases_Bool, ltb-false}
use Rattle.std.proofs.lemmas.List.Concat.{flat_map-cons, length-flat_map}
use Rattle.std.proofs.lemmas.Option.{slice_get_within}
use Rattle.std.proofs.lemmas.List.Sums.{sum_by-cons, sum_by-take-le, sum_by_more_le}
use Rattle.component_package.specs.declared.part.Reloc.{Reloc}
use Rattle.component_package.specs.declared.part.Site.{Site}
use Rattle.component_package.specs.declared.part.Export.{Export}
use Rattle.component_package.specs.declared.part.Place.{Place}
use Rattle.component_package.specs.declared.part.Place.TheVariants as places
use Rattle.component_package.specs.packages.Component.{Component}
use Rattle.component_package.specs.packages.Reading.{reloc_width, length_of, header_of_component}
use Rattle.component_package.specs.packages.Grammar.{IsExport, IsReloc, IsComponent}
use Rattle.component_package.specs.link.Layout.{Room, room_of, code_total, init_total, bss_total, linker_symbol}
use Rattle.component_package.specs.link.Link.{rooms_of, exports_of, sites_in, sites_of, base_of_place, definition_of, fixed_target, target_with, place_of_site, fixup_with, room_cause, plain_of}
use Rattle.component_package.specs.link.Areas.{MergedSymbol, IsSymbol, IsEntry}
use Rattle.component_package.specs.link.Pages.{merged, IsTableOf, address_in, listed}
use Rattle.component_package.specs.link.Sets.{IsSet}
use Rattle.link_laws.proofs.Apart.{all_append, IsAt, AreAt, all_at_place, fits, room_at, rooms_length}
use Rattle.link_laws.proofs.Law.{all_ordered}
use Rattle.link_laws.proofs.Table.{all_exports, definition_has, find_has}

-- ---- All relocations

-- what holds of a component's relocations holds of its sites
sites_at : (P : Site → Type 0) (k n : ℕ) (rs : List Reloc) (Q : Reloc → Type 0) → ((i : ℕ) (r : Reloc) → Q r → P (record { component = k; index = i; reloc = r })) → AllByRecursion Q rs
    → AllByRecursion P (map (λ r. record { component = k; index = r.0; reloc = r.1 }) (enumerate_from n rs))
sites_at P k n [] Q each all = tt
sites_at P k n (r ∷ rs) Q each all = (each n r all.0, sites_at P k (n + 1) rs Q each all.1)

-- a relocation of a component of the set
pub record IsSite (set : List Component) (x : Site) : Type 0 where
  pub owner : Component
  pub at : IsAt set x.component owner
  pub is : IsReloc owner x.reloc

-- the sites of the components from n on are relocations of theirs
sites_from : (set : List Component) (n : ℕ) (cs : List Component) → AreAt set n cs → AllByRecursion IsComponent cs
    → AllByRecursion (IsSite set) (flat_map (λ p. sites_in p.0 p.1) (enumerate_from n cs))
sites_from set n [] are components = tt
sites_from set n (c ∷ cs) are components =
    rw (flat_map-cons {X = ℕ × Component} (λ p. sites_in p.0 p.1) (n, c) (enumerate_from (n + 1) cs))
    (all_append (IsSite set) (sites_in n c) (flat_map (λ p. sites_in p.0 p.1) (enumerate_from (n + 1) cs))
    (sites_at (IsSite set) n 0 c.relocs (IsReloc c) (λ i r is. record { owner = c; at = are.0; is = is }) components.0.relocs) (sites_from set (n + 1) cs are.1 components.1))

-- each site is a relocation of its component
pub all_sites : (set : List Component) → AllByRecursion IsComponent set → AllByRecursion (IsSite set) (sites_of set)
all_sites set components = sites_from set 0 set (all_at_place set) components

-- ---- Room

-- a set that fits flash and RAM
pub record HasRoom (rooms : List Room) : Type 0 where
  pub flash : code_total rooms + init_total rooms ≤ 122880
  pub ram : init_total rooms + bss_total rooms ≤ 3584

-- by the two tests
has_room : (rooms : List Room) (a b : Bool) → nat_lt 122880 (code_total rooms + init_total rooms) ≡ a → nat_lt 3584 (init_total rooms + bss_total rooms) ≡ b → room_cause rooms ≡ None → HasRoom rooms
has_room rooms true b e f none = absurd (let g = rw e at none in cc)
has_room rooms false true e f none = absurd (let g = rw (e, f) at none in cc)
has_room rooms false false e f none = record { flash = ltb-false 122880 (code_total rooms + init_total rooms) e; ram = ltb-false 3584 (init_total rooms + bss_total rooms) f }

-- no cause says that there is room
pub room_from_cause : (rooms : List Room) → room_cause rooms ≡ None → HasRoom rooms
room_from_cause rooms none = has_room rooms _ _ refl refl none

-- ---- Places

-- a sum over rooms is one over components
sum_of_rooms : (f : Room → ℕ) (set : List Component) → sum_by f (rooms_of set) ≡ sum_by (λ c. f (room_of c)) set
sum_of_rooms f [] = refl
sum_of_rooms f (c ∷ cs) = sum_by-cons f (room_of c) (map room_of cs) ∙ ap (λ (s : ℕ). f (room_of c) + s) (sum_of_rooms f cs) ∙ sym (sum_by-cons (λ c. f (room_of c)) c cs)

-- an image is as long as all code and data
pub plain_length : (set : List Component) → length (plain_of set) ≡ code_total (rooms_of set) + init_total (rooms_of set)
plain_length set =
    let code : length (flat_map (λ c. c.code) set) ≡ code_total (rooms_of set) = length-flat_map (λ (c : Component). c.code) set ∙ sym (sum_of_rooms (λ r. r.code) set) in
    let init : length (flat_map (λ c. c.init) set) ≡ init_total (rooms_of set) = length-flat_map (λ (c : Component). c.init) set ∙ sym (sum_of_rooms (λ r. r.init) set) in
    length-append (flat_map (λ c. c.code) set) (flat_map (λ c. c.init) set) ∙ omega (arith, code, init)

-- what a component takes of a sum
pub part_in_sum : (f : Room → ℕ) (set : List Component) (k : ℕ) (c : Component) → IsAt set k c → sum_by f (take k (rooms_of set)) + f (room_of c) ≤ sum_by f (rooms_of set)
part_in_sum f set k c at = let le = sum_by_more_le f (rooms_of set) k (room_of c) (rooms_length set k c at) in rw (room_at set k c at) at le

-- a field ends within the image
pub site_inside : (set : List Component) (x : Site) → IsSite set x → place_of_site set x + reloc_width x.reloc ≤ length (plain_of set)
site_inside set x s =
    let code = part_in_sum (λ r. r.code) set x.component s.owner s.at in
    let init = part_in_sum (λ r. r.init) set x.component s.owner s.at in
    let fit = fits s.owner x.reloc s.is in
    rw (plain_length set) (elim (cases_Bool x.reloc.in_init) [
      | inl e ↦ let f = rw e at fit in rw e (omega (arith, init, f))
      | inr e ↦ let f = rw e at fit in rw e (omega (arith, code, f))
    ])

-- ---- Targets

-- a number that a record has room for, if there is one
abbrev pub IsSmall : Option ℕ → Type 0
IsSmall None = Unit {0}
IsSmall (Some n) = n < 2 ^ 24

-- one of two small numbers
small_or : (a b : Option ℕ) → IsSmall a → IsSmall b → IsSmall (option_or a b)
small_or None b p q = q
small_or (Some n) b p q = p

-- a small number or the other
small_if : (b : Bool) (n : ℕ) (o : Option ℕ) → n < 2 ^ 24 → IsSmall o → IsSmall (cond b (Some n) o)
small_if true n o p q = p
small_if false n o p q = q

-- a small number, or 0
small_unwrapped : (o : Option ℕ) → IsSmall o → unwrap_or o 0 < 2 ^ 24
small_unwrapped None p = omega arith
small_unwrapped (Some n) p = p

module _ (set : List Component) (room : HasRoom (rooms_of set)) where
  -- the linker's symbols are small
  symbol_small : (t : ℕ) → IsSmall (linker_symbol (rooms_of set) t)
  symbol_small t =
      let rooms = rooms_of set in
      let f = room.flash in
      let r = room.ram in
      small_if (eqb t 3) _ _ (omega arith) (small_if (eqb t 4) _ _ (omega (arith, r)) (small_if (eqb t 5) _ _ (omega (arith, f)) (small_if (eqb t 6) _ _ (omega (arith, r))
      (small_if (eqb t 7) _ _ (omega (arith, r)) (small_if (eqb t 8) _ _ (omega (arith, r)) (small_if (eqb t 9) _ _ (omega arith) (small_if (eqb t 10) _ _ (omega arith) tt)))))))

  -- so are the component's own bases
  fixed_small : (k t : ℕ) → IsSmall (fixed_target set k t)
  fixed_small k t =
      let rooms = rooms_of set in
      let f = room.flash in
      let r = room.ram in
      small_if (eqb t 0) _ _ (omega (arith, f, sum_by-take-le (λ (r : Room). r.code) rooms k))
      (small_if (eqb t 1) _ _ (omega (arith, r, sum_by-take-le (λ (r : Room). r.init) rooms k))
      (small_if (eqb t 2) _ _ (omega (arith, r, sum_by-take-le (λ (r : Room). r.bss) rooms k)) (symbol_small t)))

  -- so is each target, where the addresses of symbols are
  target_small : (f : ℕ → Option ℕ) → ((s : ℕ) → IsSmall (f s)) → (x : Site) → IsSmall (target_with f set x)
  target_small f all x =
      small_or (fixed_target set x.component x.reloc.target) _ (fixed_small x.component x.reloc.target)
      (small_or (f x.reloc.target) _ (all x.reloc.target) (small_if x.reloc.weak 0 None (omega arith) tt))

-- ---- Records of the list

-- a small address and an addend of two bytes fit four
sum_fits : (n : ℕ) (a : ℤ) → n < 2 ^ 24 → FitsSigned w16 a → FitsSigned w32 (pos n +ℤ a)
sum_fits n (pos a) lt small = grind arith
sum_fits n (negsuc a) lt small = grind arith

-- an address that was found is small
found_small : (o : Option MergedSymbol) → ((r : MergedSymbol) → o ≡ Some r → r.address < 2 ^ 24) → IsSmall (option_map (λ (r : MergedSymbol). r.address) o)
found_small None each = tt
found_small (Some r) each = each r refl

-- a table's addresses are small
table_small : (table : List MergedSymbol) → AllByRecursion IsSymbol table → (s : ℕ) → IsSmall (address_in table s)
table_small table all s = found_small (find (λ r. eqb r.symbol s) table) (λ r e. (find_has (λ r. eqb r.symbol s) IsSymbol table r all e).address)

-- a field of the set has room in a record
entry_at : (set : List Component) → HasRoom (rooms_of set) → (f : ℕ → Option ℕ) → ((s : ℕ) → IsSmall (f s)) → (x : Site) → IsSite set x → IsEntry (fixup_with f set x)
entry_at set room f small x s = record {
  place = omega (arith, site_inside set x s, plain_length set, room.flash);
  sum = sum_fits (unwrap_or (target_with f set x) 0) x.reloc.addend (small_unwrapped (target_with f set x) (target_small set room f small x)) s.is.addend;
}

-- what holds of elements holds of what a function makes of them
pub all_map : {X Y : Type 0} (P : X → Type 0) (Q : Y → Type 0) (f : X → Y) → ((x : X) → P x → Q (f x)) → (xs : List X) → AllByRecursion P xs → AllByRecursion Q (map f xs)
all_map P Q f each [] all = tt
all_map P Q f each (x ∷ xs) all = (each x all.0, all_map P Q f each xs all.1)

-- all records of a list have room
pub entries_have_room : (set : List Component) (table : List MergedSymbol) → AllByRecursion IsComponent set → HasRoom (rooms_of set) → AllByRecursion IsSymbol table → AllByRecursion IsEntry (listed set table)
entries_have_room set table components room symbols =
    all_ordered IsEntry (fixup_with (address_in table) set) (sites_of set)
    (all_map (IsSite set) IsEntry (fixup_with (address_in table) set) (entry_at set room (address_in table) (table_small table symbols)) (sites_of set) (all_sites set components))

-- ---- Records of the table

-- an export of a component of the set
pub record IsExported (set : List Component) (x : ℕ × Export) : Type 0 where
  pub owner : Component
  pub at : IsAt set x.0 owner
  pub is : IsExport owner x.1

-- a component's exports are exports of the set
exported : (set : List Component) (k : ℕ) (c : Component) → IsAt set k c → (es : List Export) → AllByRecursion (IsExport c) es → AllByRecursion (λ e. IsExported set (k, e)) es
exported set k c at [] all = tt
exported set k c at (e ∷ es) all = (record { owner = c; at = at; is = all.0 }, exported set k c at es all.1)

-- so are those of all
pub all_exported : (set : List Component) → AllByRecursion IsComponent set → AllByRecursion (IsExported set) (exports_of set)
all_exported set components = all_exports set (IsExported set) (λ k c at is. exported set k c at c.exports is.exports) components

-- an address in a part is small
address_small : (set : List Component) → HasRoom (rooms_of set) → (k : ℕ) (c : Component) → IsAt set k c → (p : Place) (v : ℕ) → v ≤ length_of (header_of_component c) p → base_of_place set k p + v < 2 ^ 24
address_small set room k c at places.Code v le = omega (arith, le, room.flash, part_in_sum (λ r. r.code) set k c at)
address_small set room k c at places.Init v le = omega (arith, le, room.ram, part_in_sum (λ r. r.init) set k c at)
address_small set room k c at places.Bss v le = omega (arith, le, room.ram, part_in_sum (λ r. r.bss) set k c at)
address_small set room k c at places.Absolute v le = omega (arith, le)

-- an export has room in a record
symbol_at : (set : List Component) → length set ≤ 16 → HasRoom (rooms_of set) → (x : ℕ × Export) → IsExported set x → IsSymbol (merged set x)
symbol_at set few room x e = record {
  symbol = e.is.symbol;
  exporter = omega (arith, few, slice_get_within set x.0 e.owner e.at.here);
  address = address_small set room x.0 e.owner e.at x.1.place x.1.value e.is.value;
}

-- so has the definition of a symbol
given_symbol : (set : List Component) → length set ≤ 16 → HasRoom (rooms_of set) → AllByRecursion (IsExported set) (exports_of set) → (s : ℕ) (d : Option (ℕ × Export)) (r : MergedSymbol) → definition_of set s ≡ d → option_map (merged set) d ≡ Some r → IsSymbol r
given_symbol set few room all s None r e f = absurd cc
given_symbol set few room all s (Some x) r e f = let same : merged set x ≡ r = cc in subst IsSymbol same (symbol_at set few room x (definition_has set (IsExported set) s x all e))

-- so has each record of a table
symbols_have_room : (set : List Component) → length set ≤ 16 → HasRoom (rooms_of set) → AllByRecursion (IsExported set) (exports_of set)
    → (rs : List MergedSymbol) → AllByRecursion (λ r. option_map (merged set) (definition_of set r.symbol) ≡ Some r) rs → AllByRecursion IsSymbol rs
symbols_have_room set few room all [] each = tt
symbols_have_room set few room all (r ∷ rs) each = (given_symbol set few room all r.symbol (definition_of set r.symbol) r refl each.0, symbols_have_room set few room all rs each.1)

-- all records of a set's own table have room
pub table_has_room : (set : List Component) (table : List MergedSymbol) → IsSet set → room_cause (rooms_of set) ≡ None → IsTableOf set table → AllByRecursion IsSymbol table
table_has_room set table is none t = symbols_have_room set is.few (room_from_cause (rooms_of set) none) (all_exported set is.components) table t.each
