-- The components of a set that a board holds, by their headers.
use Rattle.std.proofs.Common.{◌≡◌, ℕ, suc, ◌+◌, ◌<◌, Option, Some, None, List, [], ◌∷◌, length, take, map, refl, sym, ap, ap₂, ◌∙◌, subst, arith, length-append}
use Rattle.std.specs.Prelude.{slice_get}
use Rattle.std.specs.List.{sum_by, flat_map, enumerate_from}
use Rattle.std.proofs.lemmas.List.Concat.{flat_map-cons}
use Rattle.std.proofs.lemmas.List.Sums.{sum_by-cons}
use Rattle.std.proofs.lemmas.List.{length-map, length-take-le, get_or-take}
use Rattle.std.proofs.lemmas.Option.{slice_get-get_or, same_Some, slice_get_within}
use Rattle.flash_pages.specs.State.{State}
use Rattle.component_package.specs.declared.part.Header.{Header}
use Rattle.component_package.specs.declared.part.Reloc.{Reloc}
use Rattle.component_package.specs.declared.part.Site.{Site}
use Rattle.component_package.specs.packages.Component.{Component}
use Rattle.component_package.specs.link.Layout.{Room, room_of}
use Rattle.component_package.specs.link.Link.{rooms_of, sites_in, sites_of}
use Rattle.layout_plan.specs.declared.plan.Plan.{Plan}
use Rattle.layout_plan.specs.Plan.{IsPlan}
use Rattle.kept_store.specs.declared.set.StoredSet.{StoredSet}
use Rattle.kept_store.specs.Sets.{IsSet, HoldsSet, no_header, header_at}
use Rattle.kept_store.specs.Open.{HasRooms}
use Rattle.kept_symbols.specs.Stored.{stored_rooms, IsPlanOf}
use Rattle.kept_relocs.specs.List.{relocs_of}

-- component k of a set that a board holds has the sizes that its header says
pub record HasHeader (set : StoredSet) (k : ℕ) (c : Component) : Type 0 where
  pub code : length c.code ≡ (header_at set k).code
  pub init : length c.init ≡ (header_at set k).init
  pub bss : c.bss ≡ (header_at set k).bss
  pub relocs : length c.relocs ≡ (header_at set k).relocs

pub has_header : (s : State) (set : StoredSet) (components : List Component) (k : ℕ) (c : Component) → HoldsSet s set components → slice_get components k ≡ Some c → HasHeader set k c
has_header s set components k c holds here =
    let header = sym (holds.each k c here).header in
    record {
      code = ap (λ (h : Header). h.code) header;
      init = ap (λ (h : Header). h.init) header;
      bss = ap (λ (h : Header). h.bss) header;
      relocs = ap (λ (h : Header). h.relocs) header;
    }

-- component k
pub record SomeComponent (components : List Component) (k : ℕ) : Type 0 where
  pub it : Component
  pub here : slice_get components k ≡ Some it

pub component_at : (components : List Component) (k : ℕ) → k < length components → SomeComponent components k
component_at components k lt = some (slice_get components k) refl
  where
    none : Component
    none = record { component = 0; version = 0; code = []; init = []; bss = 0; exports = []; relocs = [] }

    some : (o : Option Component) → slice_get components k ≡ o → SomeComponent components k
    some (Some c) e = record { it = c; here = e }
    some None e = absurd (let g = sym (slice_get-get_or components k none lt) ∙ e in cc)

-- the header at a place among the first
first_headers : (set : StoredSet) (k : ℕ) → IsSet set → HasRooms set → k < set.slots.manifest.count → slice_get (take set.slots.manifest.count set.headers) k ≡ Some (header_at set k)
first_headers set k is rooms lt =
    let few = is.manifest.count in
    slice_get-get_or (take set.slots.manifest.count set.headers) k no_header (omega (arith, length-take-le set.slots.manifest.count set.headers (omega (arith, rooms.headers))))
    ∙ ap (λ (h : Header). Some h) (get_or-take set.slots.manifest.count set.headers k no_header lt)

-- two lists that are the same under two functions
pub same_maps : {X Y Z : Type 0} (f : X → Z) (g : Y → Z) (xs : List X) (ys : List Y) → length xs ≡ length ys
    → ((k : ℕ) (x : X) (y : Y) → slice_get xs k ≡ Some x → slice_get ys k ≡ Some y → f x ≡ g y) → map f xs ≡ map g ys
same_maps f g [] [] len each = refl
same_maps f g [] (y ∷ ys) len each = absurd (omega (arith, len))
same_maps f g (x ∷ xs) [] len each = absurd (omega (arith, len))
same_maps f g (x ∷ xs) (y ∷ ys) len each =
    let head = each 0 x y refl refl in
    let rest = same_maps f g xs ys (omega (arith, len)) (λ k a b p q. each (suc k) a b p q) in
    λ i. head i ∷ rest i

-- and have the same sum
same_sums : {X Y : Type 0} (f : X → ℕ) (g : Y → ℕ) (xs : List X) (ys : List Y) → length xs ≡ length ys
    → ((k : ℕ) (x : X) (y : Y) → slice_get xs k ≡ Some x → slice_get ys k ≡ Some y → f x ≡ g y) → sum_by f xs ≡ sum_by g ys
same_sums f g [] [] len each = refl
same_sums f g [] (y ∷ ys) len each = absurd (omega (arith, len))
same_sums f g (x ∷ xs) [] len each = absurd (omega (arith, len))
same_sums f g (x ∷ xs) (y ∷ ys) len each =
    sum_by-cons f x xs ∙ ap₂ (λ (a b : ℕ). a + b) (each 0 x y refl refl) (same_sums f g xs ys (omega (arith, len)) (λ k a b p q. each (suc k) a b p q)) ∙ sym (sum_by-cons g y ys)

-- the relocations of components, counted
sites_count : (n : ℕ) (cs : List Component) → length (flat_map (λ c. sites_in c.0 c.1) (enumerate_from n cs)) ≡ sum_by (λ c. length c.relocs) cs
sites_count n [] = refl
sites_count n (c ∷ cs) =
    ap (λ (l : List Site). length l) (flat_map-cons {X = ℕ × Component} (λ p. sites_in p.0 p.1) (n, c) (enumerate_from (n + 1) cs))
    ∙ length-append (sites_in n c) (flat_map (λ p. sites_in p.0 p.1) (enumerate_from (n + 1) cs))
    ∙ ap₂ (λ (a b : ℕ). a + b) (count_in n c) (sites_count (n + 1) cs) ∙ sym (sum_by-cons (λ (d : Component). length d.relocs) c cs)
  where
    numbered : (m : ℕ) (rs : List Reloc) → length (enumerate_from m rs) ≡ length rs
    numbered m [] = refl
    numbered m (r ∷ rs) = ap suc (numbered (m + 1) rs)

    count_in : (n : ℕ) (c : Component) → length (sites_in n c) ≡ length c.relocs
    count_in n c = length-map (enumerate_from 0 c.relocs) (λ r. record { component = n; index = r.0; reloc = r.1 }) ∙ numbered 0 c.relocs

module _ (s : State) (set : StoredSet) (components : List Component) (is : IsSet set) (rooms : HasRooms set) (holds : HoldsSet s set components) where
  -- the headers that count
  abbrev headers : List Header
  headers = take set.slots.manifest.count set.headers

  lengths : length components ≡ length headers
  lengths = let few = is.manifest.count in holds.count ∙ sym (length-take-le set.slots.manifest.count set.headers (omega (arith, rooms.headers)))

  -- each component is as its header says
  each_header : (k : ℕ) (c : Component) (h : Header) → slice_get components k ≡ Some c → slice_get headers k ≡ Some h → (HasHeader set k c) × (h ≡ header_at set k)
  each_header k c h here there =
      let lt : k < set.slots.manifest.count = omega (arith, slice_get_within components k c here, holds.count) in
      (has_header s set components k c holds here, same_Some h (header_at set k) (sym there ∙ first_headers set k is rooms lt))

  -- the rooms of the components are those of the headers
  pub rooms_are : rooms_of components ≡ stored_rooms set
  rooms_are = same_maps room_of (λ h. record { code = h.code; init = h.init; bss = h.bss }) components headers lengths room_is
    where
      room_is : (k : ℕ) (c : Component) (h : Header) → slice_get components k ≡ Some c → slice_get headers k ≡ Some h → room_of c ≡ record { code = h.code; init = h.init; bss = h.bss }
      room_is k c h here there =
          let each = each_header k c h here there in
          let same : header_at set k ≡ h = sym each.1 in
          let code : length c.code ≡ h.code = each.0.code ∙ ap (λ (g : Header). g.code) same in
          let init : length c.init ≡ h.init = each.0.init ∙ ap (λ (g : Header). g.init) same in
          let bss : c.bss ≡ h.bss = each.0.bss ∙ ap (λ (g : Header). g.bss) same in
          λ i. record { code = code i; init = init i; bss = bss i }

  -- so a plan of the set is theirs
  pub plan_is : (p : Plan) → IsPlanOf set p → IsPlan (rooms_of components) p
  plan_is p planned = subst (λ (rs : List Room). IsPlan rs p) (sym rooms_are) planned.plan

  -- and they have as many relocations
  pub relocs_are : length (sites_of components) ≡ relocs_of set
  relocs_are =
      sites_count 0 components
      ∙ same_sums (λ c. length c.relocs) (λ h. h.relocs) components headers lengths (λ k c h here there.
      let each = each_header k c h here there in each.0.relocs ∙ ap (λ (g : Header). g.relocs) (sym each.1))

-- a plan has as many components as the manifest counts
pub plan_count : (set : StoredSet) (p : Plan) → IsSet set → HasRooms set → IsPlanOf set p → p.count ≡ set.slots.manifest.count
plan_count set p is rooms plan =
    let few = is.manifest.count in
    plan.plan.count ∙ length-map (take set.slots.manifest.count set.headers) (λ h. record { code = h.code; init = h.init; bss = h.bss })
    ∙ length-take-le set.slots.manifest.count set.headers (omega (arith, rooms.headers))
