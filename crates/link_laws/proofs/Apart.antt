-- The fields of a set do not meet.
use Rattle.std.proofs.Common.{◌≡◌, ℕ, ◌+◌, ◌<◌, ◌≤◌, ◌⊎◌, inl, inr, Bool, true, false, cond, List, [], ◌∷◌, ◌++◌, length, take, take-take, get_or, map, Some, refl, ap, subst, ◌∙◌, arith, append_assoc, length-append}
use Rattle.std.specs.Prelude.{slice_get}
use Rattle.std.specs.Option.{option_map}
use Rattle.std.specs.List.{AllByRecursion, AllPairs, flat_map, enumerate_from, sum_by}
use Rattle.std.proofs.lemmas.Bool.{cases_Bool}
use Rattle.std.proofs.lemmas.List.{length-map, length-take, get_or-take, map-append}
use Rattle.std.proofs.lemmas.Simd.{map-map}
use Rattle.std.proofs.lemmas.List.Concat.{flat_map-cons}
use Rattle.std.proofs.lemmas.List.Sums.{sum_by_more_le}
use Rattle.std.proofs.lemmas.Option.{slice_get_within, get_or_from_slice_get, slice_get-map}
use Rattle.avr_reloc.specs.declared.fixup.Fixup.{Fixup}
use Rattle.avr_reloc.specs.declared.kind.Shape.{Shape}
use Rattle.avr_reloc.specs.declared.kind.Shape.TheVariants as shapes
use Rattle.avr_reloc.specs.Kind.{shape_of, width_of}
use Rattle.avr_reloc.specs.Fixups.{AreApart}
use Rattle.avr_reloc.proofs.Exists.{PairsApart, AllPairs-from_apart}
use Rattle.component_package.specs.declared.part.Reloc.{Reloc}
use Rattle.component_package.specs.packages.Component.{Component}
use Rattle.component_package.specs.packages.Reading.{reloc_width}
use Rattle.component_package.specs.packages.Grammar.{IsReloc, position_in, RelocsRise, IsComponent}
use Rattle.component_package.specs.link.Layout.{Room, room_of, code_total, code_base, load_base}
use Rattle.component_package.specs.link.Link.{rooms_of, sites_in, fixup_of, fixups_of}

-- a field ends within its part
abbrev pub Fits : Component → Reloc → Type 0
Fits c r = r.offset + reloc_width r ≤ cond r.in_init (length c.init) (length c.code)

-- ---- the bases

-- what stands before j has room for all of i
sum_step : (f : Room → ℕ) (rooms : List Room) (i j : ℕ) (d : Room) → i < j → j ≤ length rooms → sum_by f (take i rooms) + f (get_or rooms i d) ≤ sum_by f (take j rooms)
sum_step f rooms i j d lt inside =
    let short : i < length (take j rooms) = omega (arith, length-take j rooms) in
    let le = sum_by_more_le f (take j rooms) i d short in
    let same : take i (take j rooms) ≡ take i rooms = take-take i j rooms (omega arith) in
    let here : get_or (take j rooms) i d ≡ get_or rooms i d = get_or-take j rooms i d lt in
    rw (same, here) at le

-- a component with its place in the set
pub record IsAt (set : List Component) (k : ℕ) (c : Component) : Type 0 where
  pub here : slice_get set k ≡ Some c

-- the room of the component at k
pub room_at : (set : List Component) (k : ℕ) (c : Component) → IsAt set k c → get_or (rooms_of set) k (room_of c) ≡ room_of c
room_at set k c h = get_or_from_slice_get (rooms_of set) k (room_of c) (room_of c) (slice_get-map room_of set k ∙ ap (option_map room_of) h.here)

-- its place is below the length of the set
pub rooms_length : (set : List Component) (k : ℕ) (c : Component) → IsAt set k c → k < length (rooms_of set)
rooms_length set k c h = omega (arith, slice_get_within set k c h.here, length-map set room_of)

-- code ends before the code of a later component begins, and before all data
pub record Stands (set : List Component) (k : ℕ) (c : Component) : Type 0 where
  pub code_before : (j : ℕ) → k < j → j ≤ length (rooms_of set) → code_base (rooms_of set) k + length c.code ≤ code_base (rooms_of set) j
  pub init_before : (j : ℕ) → k < j → j ≤ length (rooms_of set) → load_base (rooms_of set) k + length c.init ≤ load_base (rooms_of set) j
  pub code_low : code_base (rooms_of set) k + length c.code ≤ code_total (rooms_of set)

-- where a component of the set stands
pub stands : (set : List Component) (k : ℕ) (c : Component) → IsAt set k c → Stands set k c
stands set k c h =
    let rooms = rooms_of set in
    let room : get_or rooms k (room_of c) ≡ room_of c = room_at set k c h in
    let n = rooms_length set k c h in
    record {
      code_before = λ j lt le. rw room at (sum_step (λ r. r.code) rooms k j (room_of c) lt le);
      init_before = λ j lt le. let s = rw room at (sum_step (λ r. r.init) rooms k j (room_of c) lt le) in omega (arith, s);
      code_low = rw room at (sum_by_more_le (λ r. r.code) rooms k (room_of c) n);
    }

-- ---- the fields

-- the field of a relocation of component k
abbrev pub field : List Component → ℕ → ℕ → Reloc → Fixup
field set k i r = fixup_of set (record { component = k; index = i; reloc = r })

-- the same on numbers: one component at b and l, with n bytes of code and m of data
within : (a' b' : Bool) (b l n m x v y w : ℕ) → b + n ≤ l → 0 < v → 0 < w → x + v ≤ cond a' m n → y + w ≤ cond b' m n → cond a' n 0 + x + v ≤ cond b' n 0 + y
    → (cond b' l b + y + w ≤ cond a' l b + x) ⊎ (cond a' l b + x + v ≤ cond b' l b + y)
within false false b l n m x v y w low pv pw fx fy after = inr (omega arith)
within false true b l n m x v y w low pv pw fx fy after = inr (omega arith)
within true false b l n m x v y w low pv pw fx fy after = absurd (omega arith)
within true true b l n m x v y w low pv pw fx fy after = inr (omega arith)

-- two components, where the code of both ends before t and the data of both begins there
between : (p q : Bool) (b l n m b' l' n' m' t x v y w : ℕ) → b + n ≤ b' → l + m ≤ l' → b + n ≤ t → b' + n' ≤ t → t ≤ l → t ≤ l' → x + v ≤ cond p m n → y + w ≤ cond q m' n'
    → (cond q l' b' + y + w ≤ cond p l b + x) ⊎ (cond p l b + x + v ≤ cond q l' b' + y)
between false false b l n m b' l' n' m' t x v y w h1 h2 h3 h4 h5 h6 fx fy = inr (omega arith)
between false true b l n m b' l' n' m' t x v y w h1 h2 h3 h4 h5 h6 fx fy = inr (omega arith)
between true false b l n m b' l' n' m' t x v y w h1 h2 h3 h4 h5 h6 fx fy = inl (omega arith)
between true true b l n m b' l' n' m' t x v y w h1 h2 h3 h4 h5 h6 fx fy = inr (omega arith)

-- a field has a byte
pub width_positive : (s : Shape) → 0 < width_of s
width_positive shapes.Byte = omega arith
width_positive shapes.Word = omega arith
width_positive shapes.Long = omega arith
width_positive shapes.Immediate = omega arith
width_positive shapes.Branch = omega arith
width_positive shapes.Jump = omega arith
width_positive shapes.Call = omega arith
width_positive shapes.Displacement = omega arith
width_positive shapes.Adiw = omega arith

-- so has that of a relocation
pub wide : (r : Reloc) → 0 < reloc_width r
wide r = width_positive (shape_of r.kind)

-- two fields of one component share no byte
pub within_one : (set : List Component) (k : ℕ) (c : Component) → IsAt set k c → (i j : ℕ) (x y : Reloc) → Fits c x → Fits c y
    → position_in c x + reloc_width x ≤ position_in c y → AreApart (field set k i x) (field set k j y)
within_one set k c h i j x y fx fy after =
    let s = stands set k c h in
    within x.in_init y.in_init (code_base (rooms_of set) k) (load_base (rooms_of set) k) (length c.code) (length c.init) x.offset (reloc_width x) y.offset (reloc_width y) (omega (arith, s.code_low)) (wide x) (wide y) fx fy after

-- nor do fields of two components
pub between_two : (set : List Component) (k k' : ℕ) (c c' : Component) → IsAt set k c → IsAt set k' c' → k < k' → (i j : ℕ) (x y : Reloc) → Fits c x → Fits c' y → AreApart (field set k i x) (field set k' j y)
between_two set k k' c c' h h' lt i j x y fx fy =
    let s = stands set k c h in
    let s' = stands set k' c' h' in
    let n = rooms_length set k' c' h' in
    between x.in_init y.in_init (code_base (rooms_of set) k) (load_base (rooms_of set) k) (length c.code) (length c.init) (code_base (rooms_of set) k') (load_base (rooms_of set) k') (length c'.code) (length c'.init)
    (code_total (rooms_of set)) x.offset (reloc_width x) y.offset (reloc_width y) (s.code_before k' lt (omega arith)) (s.init_before k' lt (omega arith)) s.code_low s'.code_low (omega arith) (omega arith) fx fy

-- ---- a component's fields

-- a field and the later ones of its component share no byte
rise_apart : (set : List Component) (k : ℕ) (c : Component) → IsAt set k c → (i : ℕ) (x : Reloc) → Fits c x → (n low : ℕ) (rs : List Reloc) → position_in c x + reloc_width x ≤ low
    → RelocsRise c low rs → AllByRecursion (Fits c) rs → AllByRecursion (AreApart (field set k i x)) (map (λ r. field set k r.0 r.1) (enumerate_from n rs))
rise_apart set k c h i x fx n low [] le rise fits = tt
rise_apart set k c h i x fx n low (y ∷ ys) le rise fits =
    (within_one set k c h i n x y fx fits.0 (omega (arith, rise.0)), rise_apart set k c h i x fx (n + 1) (position_in c y + reloc_width y) ys (omega (arith, rise.0)) rise.1 fits.1)

-- nor do any two of a component's fields
fields_apart : (set : List Component) (k : ℕ) (c : Component) → IsAt set k c → (n low : ℕ) (rs : List Reloc) → RelocsRise c low rs → AllByRecursion (Fits c) rs
    → PairsApart (map (λ r. field set k r.0 r.1) (enumerate_from n rs))
fields_apart set k c h n low [] rise fits = tt
fields_apart set k c h n low (x ∷ xs) rise fits =
    (rise_apart set k c h n x fits.0 (n + 1) (position_in c x + reloc_width x) xs (omega arith) rise.1 fits.1, fields_apart set k c h (n + 1) (position_in c x + reloc_width x) xs rise.1 fits.1)

-- ---- the fields of a set

-- the fields of a component rise, each within its part
pub record HasFieldsInOrder (c : Component) : Type 0 where
  pub rise : RelocsRise c 0 c.relocs
  pub fits : AllByRecursion (Fits c) c.relocs

-- a component's fields
abbrev pub fixups_in : List Component → ℕ → Component → List Fixup
fixups_in set k c = map (λ r. field set k r.0 r.1) (enumerate_from 0 c.relocs)

-- the fields of the components from n on
abbrev pub fixups_from : List Component → ℕ → List Component → List Fixup
fixups_from set n cs = flat_map (λ p. fixups_in set p.0 p.1) (enumerate_from n cs)

-- the components from n on
abbrev pub AreAt : List Component → ℕ → List Component → Type 0
AreAt set n [] = Unit {0}
AreAt set n (c ∷ cs) = IsAt set n c × AreAt set (n + 1) cs

-- what holds of two lists holds of both together
pub all_append : {X : Type 0} (P : X → Type 0) (xs ys : List X) → AllByRecursion P xs → AllByRecursion P ys → AllByRecursion P (xs ++ ys)
all_append P [] ys a b = b
all_append P (x ∷ xs) ys a b = (a.0, all_append P xs ys a.1 b)

-- two lists of fields that share no byte, and share none with each other
pairs_append : (xs ys : List Fixup) → PairsApart xs → PairsApart ys → AllByRecursion (λ x. AllByRecursion (AreApart x) ys) xs → PairsApart (xs ++ ys)
pairs_append [] ys a b c = b
pairs_append (x ∷ xs) ys a b c = (all_append (AreApart x) xs ys a.0 c.0, pairs_append xs ys a.1 b c.1)

-- a field and those of one later component
from_one : (set : List Component) (k k' : ℕ) (c c' : Component) → IsAt set k c → IsAt set k' c' → k < k' → (i : ℕ) (x : Reloc) → Fits c x → (m : ℕ) (rs : List Reloc) → AllByRecursion (Fits c') rs
    → AllByRecursion (AreApart (field set k i x)) (map (λ r. field set k' r.0 r.1) (enumerate_from m rs))
from_one set k k' c c' h h' lt i x fx m [] fits = tt
from_one set k k' c c' h h' lt i x fx m (y ∷ ys) fits = (between_two set k k' c c' h h' lt i m x y fx fits.0, from_one set k k' c c' h h' lt i x fx (m + 1) ys fits.1)

-- a field and those of all later components
from_later : (set : List Component) (k : ℕ) (c : Component) → IsAt set k c → (i : ℕ) (x : Reloc) → Fits c x → (n : ℕ) (cs : List Component) → k < n → AreAt set n cs → AllByRecursion HasFieldsInOrder cs
    → AllByRecursion (AreApart (field set k i x)) (fixups_from set n cs)
from_later set k c h i x fx n [] lt are sound = tt
from_later set k c h i x fx n (d ∷ ds) lt are sound =
    rw (flat_map-cons (λ p. fixups_in set p.0 p.1) (n, d) (enumerate_from (n + 1) ds))
    (all_append (AreApart (field set k i x)) (fixups_in set n d) (fixups_from set (n + 1) ds) (from_one set k n c d h are.0 lt i x fx 0 d.relocs sound.0.fits)
    (from_later set k c h i x fx (n + 1) ds (omega arith) are.1 sound.1))

-- a component's fields and those of all later components
all_from_later : (set : List Component) (k : ℕ) (c : Component) → IsAt set k c → (n : ℕ) (cs : List Component) → k < n → AreAt set n cs → AllByRecursion HasFieldsInOrder cs → (m : ℕ) (rs : List Reloc) → AllByRecursion (Fits c) rs
    → AllByRecursion (λ x. AllByRecursion (AreApart x) (fixups_from set n cs)) (map (λ r. field set k r.0 r.1) (enumerate_from m rs))
all_from_later set k c h n cs lt are sound m [] fits = tt
all_from_later set k c h n cs lt are sound m (x ∷ xs) fits = (from_later set k c h m x fits.0 n cs lt are sound, all_from_later set k c h n cs lt are sound (m + 1) xs fits.1)

-- the fields of the components from n on share no byte
pub all_apart : (set : List Component) (n : ℕ) (cs : List Component) → AreAt set n cs → AllByRecursion HasFieldsInOrder cs → PairsApart (fixups_from set n cs)
all_apart set n [] are sound = tt
all_apart set n (c ∷ cs) are sound =
    rw (flat_map-cons (λ p. fixups_in set p.0 p.1) (n, c) (enumerate_from (n + 1) cs))
    (pairs_append (fixups_in set n c) (fixups_from set (n + 1) cs) (fields_apart set n c are.0 0 0 c.relocs sound.0.rise sound.0.fits) (all_apart set (n + 1) cs are.1 sound.1)
    (all_from_later set n c are.0 (n + 1) cs (omega arith) are.1 sound.1 0 c.relocs sound.0.fits))

-- the fixups of the sites are these
pub fixups_flat : (set : List Component) (n : ℕ) (cs : List Component) → map (fixup_of set) (flat_map (λ p. sites_in p.0 p.1) (enumerate_from n cs)) ≡ fixups_from set n cs
fixups_flat set n [] = refl
fixups_flat set n (c ∷ cs) =
    rw (flat_map-cons (λ p. sites_in p.0 p.1) (n, c) (enumerate_from (n + 1) cs), flat_map-cons (λ p. fixups_in set p.0 p.1) (n, c) (enumerate_from (n + 1) cs), map-append, fixups_flat set (n + 1) cs, map-map) refl

-- the fields of a set do not meet
pub set_apart : (set : List Component) → AreAt set 0 set → AllByRecursion HasFieldsInOrder set → PairsApart (map (fixup_of set) (flat_map (λ p. sites_in p.0 p.1) (enumerate_from 0 set)))
set_apart set are sound = rw (fixups_flat set 0 set) (all_apart set 0 set are sound)

-- a relocation's field lies in its part
pub fits : (c : Component) (r : Reloc) → IsReloc c r → Fits c r
fits c r is = elim (cases_Bool r.in_init) [ inl e ↦ rw e (rw e at is.inside) | inr e ↦ rw e (rw e at is.inside) ]

-- so do all
all_fit : (c : Component) (rs : List Reloc) → AllByRecursion (IsReloc c) rs → AllByRecursion (Fits c) rs
all_fit c [] all = tt
all_fit c (r ∷ rs) all = (fits c r all.0, all_fit c rs all.1)

-- so do those of each component
pub in_order : (cs : List Component) → AllByRecursion IsComponent cs → AllByRecursion HasFieldsInOrder cs
in_order [] all = tt
in_order (c ∷ cs) all = (record { rise = all.0.reloc_order; fits = all_fit c c.relocs all.0.relocs }, in_order cs all.1)

-- the element behind a front
here_append : {X : Type 0} (front : List X) (x : X) (back : List X) → slice_get (front ++ x ∷ back) (length front) ≡ Some x
here_append [] x back = refl
here_append (y ∷ front) x back = here_append front x back

-- each component stands at its place
at_from : (front back : List Component) → (set : List Component) → front ++ back ≡ set → AreAt set (length front) back
at_from front [] set e = tt
at_from front (c ∷ cs) set e =
    let longer : (front ++ c ∷ []) ++ cs ≡ set = append_assoc front (c ∷ []) cs ∙ e in
    let n : length (front ++ c ∷ []) ≡ length front + 1 = length-append front (c ∷ []) in (
      record { here = subst (λ (s : List Component). slice_get s (length front) ≡ Some c) e (here_append front c cs) },
      subst (λ (k : ℕ). AreAt set k cs) n (at_from (front ++ c ∷ []) cs set longer),
    )

-- each component of a set stands at its place
pub all_at_place : (set : List Component) → AreAt set 0 set
all_at_place set = at_from [] set set refl

-- the fields of a set share no byte
pub fields_of_set_apart : (set : List Component) → AllByRecursion IsComponent set → AllPairs AreApart (fixups_of set)
fields_of_set_apart set components = AllPairs-from_apart (fixups_of set) (set_apart set (all_at_place set) (in_order set components))
