-- The components of a stored set, by their headers.
use Rattle.std.proofs.Common.{◌≡◌, ℕ, suc, ◌+◌, ◌-◌, ◌<◌, ◌≤◌, Option, Some, None, List, [], ◌∷◌, length, take, drop, map, get_or, refl, sym, ap, ap₂, ◌∙◌, arith, slice_range, length-append}
use Rattle.std.specs.Prelude.{slice_get}
use Rattle.std.specs.List.{sum_by, flat_map, enumerate_from}
use Rattle.std.proofs.lemmas.List.Concat.{flat_map-cons}
use Rattle.std.proofs.lemmas.List.Sums.{sum_by-cons}
use Rattle.std.proofs.lemmas.List.{length-map, length-take-le, length-drop, get_or-take}
use Rattle.std.proofs.lemmas.Option.{slice_get-get_or, same_Some, slice_get_within}
use Rattle.flash_pages.specs.State.{State}
use Rattle.component_package.specs.declared.part.Header.{Header}
use Rattle.component_package.specs.packages.Component.{Component}
use Rattle.component_package.specs.packages.Reading.{header_of, component_of, reloc_of, raw_reloc}
use Rattle.component_package.specs.link.Layout.{room_of}
use Rattle.component_package.specs.link.Link.{rooms_of, sites_in, sites_of}
use Rattle.component_package.specs.declared.part.Reloc.{Reloc}
use Rattle.component_package.specs.declared.part.Site.{Site}
use Rattle.component_package.specs.packages.Manifest.{stored_of}
use Rattle.component_package.specs.mote.Store.{slots_of, package_in}
use Rattle.component_package.proofs.Lists.{length-list_of}
use Rattle.component_package.proofs.Spelled.{faultless}
use Rattle.component_package.proofs.StoredLemmas.{length-pairs, the_placed}
use Rattle.component_store.specs.declared.set.StoredSet.{StoredSet}
use Rattle.component_store.specs.Reader.{held_package}
use Rattle.component_store.specs.Sets.{IsSet, HoldsSet, HasRooms, header_at}
use Rattle.component_store.proofs.PartLemmas.{IsHeld, held_component}
use Rattle.symbol_merge.specs.Stored.{set_in, stored_rooms, IsPlanOf}
use Rattle.layout_plan.specs.declared.plan.Plan.{Plan}
use Rattle.reloc_table.specs.List.{relocs_of}

-- component k of a set that a board holds has the sizes that its header says
pub record HasHeader (s : State) (set : StoredSet) (k : ℕ) (c : Component) : Type 0 where
  pub code : length c.code ≡ (header_at set k).code
  pub init : length c.init ≡ (header_at set k).init
  pub bss : c.bss ≡ (header_at set k).bss
  pub relocs : length c.relocs ≡ (header_at set k).relocs

cut_length : (b : List ℕ) (a n : ℕ) → a + n ≤ length b → length (slice_range b a (a + n)) ≡ n
cut_length b a n within =
    let e : a + n - a ≡ n = omega arith in
    ap (λ (m : ℕ). length (take m (drop a b))) e ∙ length-take-le n (drop a b) (omega (arith, length-drop a b))

pub has_header : (s : State) (set : StoredSet) (k : ℕ) (c : Component) → IsSet set → HasRooms set → k < set.slots.manifest.count → HoldsSet s set → slice_get (set_in s set) k ≡ Some c → HasHeader s set k c
has_header s set k c is rooms lt holds here =
    let h : Header = header_at set k in
    let slot : ℕ = get_or set.slots.slots k 0 in
    let held : IsHeld s slot h c = held_component s set k c is rooms lt holds here in
    let b : List ℕ = held_package s slot h in
    let whole = (faultless b held.sound).header.whole in
    record {
      code = ap (λ (d : Component). length d.code) held.component ∙ cut_length b 32 (header_of b).code (omega (arith, whole)) ∙ sym (ap (λ (d : Header). d.code) held.header);
      init = ap (λ (d : Component). length d.init) held.component ∙ cut_length b (32 + (header_of b).code) (header_of b).init (omega (arith, whole)) ∙ sym (ap (λ (d : Header). d.init) held.header);
      bss = ap (λ (d : Component). d.bss) held.component ∙ sym (ap (λ (d : Header). d.bss) held.header);
      relocs = ap (λ (d : Component). length d.relocs) held.component ∙ length-list_of (λ i. reloc_of (raw_reloc b i)) (header_of b).relocs ∙ sym (ap (λ (d : Header). d.relocs) held.header);
    }

-- a set has as many components as its manifest counts
pub set_length : (s : State) (set : StoredSet) → IsSet set → HasRooms set → length (set_in s set) ≡ set.slots.manifest.count
set_length s set is rooms =
    let few = is.manifest.count in
    length-map (stored_of set.slots).placed (λ p. component_of (package_in (slots_of s.ext) p))
    ∙ length-pairs (λ x. the_placed x) set.slots.manifest.entries set.slots.slots set.slots.manifest.count (omega (arith, rooms.entries)) (omega (arith, rooms.slots))

-- component k
pub record SomeComponent (s : State) (set : StoredSet) (k : ℕ) : Type 0 where
  pub it : Component
  pub here : slice_get (set_in s set) k ≡ Some it

pub component_at : (s : State) (set : StoredSet) (k : ℕ) → IsSet set → HasRooms set → k < set.slots.manifest.count → SomeComponent s set k
component_at s set k is rooms lt = some (slice_get (set_in s set) k) refl
  where
    none : Component
    none = record { component = 0; version = 0; code = []; init = []; bss = 0; exports = []; relocs = [] }

    some : (o : Option Component) → slice_get (set_in s set) k ≡ o → SomeComponent s set k
    some (Some c) e = record { it = c; here = e }
    some None e = absurd (let g = sym (slice_get-get_or (set_in s set) k none (omega (arith, set_length s set is rooms))) ∙ e in cc)

-- the header at a place among the first
first_headers : (set : StoredSet) (k : ℕ) (d : Header) → IsSet set → HasRooms set → k < set.slots.manifest.count → slice_get (take set.slots.manifest.count set.headers) k ≡ Some (header_at set k)
first_headers set k d is rooms lt =
    let few = is.manifest.count in
    let none : Header = record { component = 0; version = 0; code = 0; init = 0; bss = 0; exports = 0; relocs = 0 } in
    slice_get-get_or (take set.slots.manifest.count set.headers) k none (omega (arith, length-take-le set.slots.manifest.count set.headers (omega (arith, rooms.headers))))
    ∙ ap (λ (h : Header). Some h) (get_or-take set.slots.manifest.count set.headers k none lt)

-- two lists that are the same under two functions
same_maps : {X Y Z : Type 0} (f : X → Z) (g : Y → Z) (xs : List X) (ys : List Y) → length xs ≡ length ys
    → ((k : ℕ) (x : X) (y : Y) → slice_get xs k ≡ Some x → slice_get ys k ≡ Some y → f x ≡ g y) → map f xs ≡ map g ys
same_maps f g [] [] len each = refl
same_maps f g [] (y ∷ ys) len each = absurd (omega (arith, len))
same_maps f g (x ∷ xs) [] len each = absurd (omega (arith, len))
same_maps f g (x ∷ xs) (y ∷ ys) len each =
    let head = each 0 x y refl refl in
    let rest = same_maps f g xs ys (omega (arith, len)) (λ k a b p q. each (suc k) a b p q) in
    λ i. head i ∷ rest i

-- and have the same sum
same_sums : {X Y : Type 0} (f : X → ℕ) (g : Y → ℕ) (xs : List X) (ys : List Y) → length xs ≡ length ys
    → ((k : ℕ) (x : X) (y : Y) → slice_get xs k ≡ Some x → slice_get ys k ≡ Some y → f x ≡ g y) → sum_by f xs ≡ sum_by g ys
same_sums f g [] [] len each = refl
same_sums f g [] (y ∷ ys) len each = absurd (omega (arith, len))
same_sums f g (x ∷ xs) [] len each = absurd (omega (arith, len))
same_sums f g (x ∷ xs) (y ∷ ys) len each =
    sum_by-cons f x xs ∙ ap₂ (λ (a b : ℕ). a + b) (each 0 x y refl refl) (same_sums f g xs ys (omega (arith, len)) (λ k a b p q. each (suc k) a b p q)) ∙ sym (sum_by-cons g y ys)

-- the relocations of components, counted
sites_count : (n : ℕ) (cs : List Component) → length (flat_map (λ c. sites_in c.0 c.1) (enumerate_from n cs)) ≡ sum_by (λ c. length c.relocs) cs
sites_count n [] = refl
sites_count n (c ∷ cs) =
    ap (λ (l : List Site). length l) (flat_map-cons {X = ℕ × Component} (λ p. sites_in p.0 p.1) (n, c) (enumerate_from (n + 1) cs))
    ∙ length-append (sites_in n c) (flat_map (λ p. sites_in p.0 p.1) (enumerate_from (n + 1) cs))
    ∙ ap₂ (λ (a b : ℕ). a + b) (count_in n c) (sites_count (n + 1) cs) ∙ sym (sum_by-cons (λ (d : Component). length d.relocs) c cs)
  where
    numbered : (m : ℕ) (rs : List Reloc) → length (enumerate_from m rs) ≡ length rs
    numbered m [] = refl
    numbered m (r ∷ rs) = ap suc (numbered (m + 1) rs)

    count_in : (n : ℕ) (c : Component) → length (sites_in n c) ≡ length c.relocs
    count_in n c = length-map (enumerate_from 0 c.relocs) (λ r. record { component = n; index = r.0; reloc = r.1 }) ∙ numbered 0 c.relocs

module _ (s : State) (set : StoredSet) (is : IsSet set) (rooms : HasRooms set) (holds : HoldsSet s set) where
  -- the headers that count
  abbrev headers : List Header
  headers = take set.slots.manifest.count set.headers

  lengths : length (set_in s set) ≡ length headers
  lengths = let few = is.manifest.count in set_length s set is rooms ∙ sym (length-take-le set.slots.manifest.count set.headers (omega (arith, rooms.headers)))

  -- each component is as its header says
  each_header : (k : ℕ) (c : Component) (h : Header) → slice_get (set_in s set) k ≡ Some c → slice_get headers k ≡ Some h → (HasHeader s set k c) × (h ≡ header_at set k)
  each_header k c h here there =
      let lt : k < set.slots.manifest.count = omega (arith, slice_get_within (set_in s set) k c here, set_length s set is rooms) in
      (has_header s set k c is rooms lt holds here, same_Some h (header_at set k) (sym there ∙ first_headers set k h is rooms lt))

  -- the rooms of the components are those of the headers
  pub rooms_are : rooms_of (set_in s set) ≡ stored_rooms set
  rooms_are = same_maps room_of (λ h. record { code = h.code; init = h.init; bss = h.bss }) (set_in s set) headers lengths room_is
    where
      room_is : (k : ℕ) (c : Component) (h : Header) → slice_get (set_in s set) k ≡ Some c → slice_get headers k ≡ Some h → room_of c ≡ record { code = h.code; init = h.init; bss = h.bss }
      room_is k c h here there =
          let each = each_header k c h here there in
          let same : header_at set k ≡ h = sym each.1 in
          let code : length c.code ≡ h.code = each.0.code ∙ ap (λ (g : Header). g.code) same in
          let init : length c.init ≡ h.init = each.0.init ∙ ap (λ (g : Header). g.init) same in
          let bss : c.bss ≡ h.bss = each.0.bss ∙ ap (λ (g : Header). g.bss) same in
          λ i. record { code = code i; init = init i; bss = bss i }

  -- and they have as many relocations
  pub relocs_are : length (sites_of (set_in s set)) ≡ relocs_of set
  relocs_are =
      sites_count 0 (set_in s set)
      ∙ same_sums (λ c. length c.relocs) (λ h. h.relocs) (set_in s set) headers lengths (λ k c h here there. let each = each_header k c h here there in each.0.relocs ∙ ap (λ (g : Header). g.relocs) (sym each.1))

-- a plan has as many components as the manifest counts
pub plan_count : (set : StoredSet) (p : Plan) → IsSet set → HasRooms set → IsPlanOf set p → p.count ≡ set.slots.manifest.count
plan_count set p is rooms plan =
    let few = is.manifest.count in
    plan.plan.count ∙ length-map (take set.slots.manifest.count set.headers) (λ h. record { code = h.code; init = h.init; bss = h.bss }) ∙ length-take-le set.slots.manifest.count set.headers (omega (arith, rooms.headers))
