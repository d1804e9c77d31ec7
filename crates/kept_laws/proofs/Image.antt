-- The parts of a set's components in its image.
use Rattle.std.proofs.Common.{◌≡◌, ◌⊎◌, inl, inr, ℕ, zero, suc, ◌+◌, ◌-◌, ◌<◌, ◌≤◌, Bool, true, false, cond, Some, List, [], ◌∷◌, ◌++◌, length, take, drop, get_or, map, pos, refl, sym, ap, subst, ◌∙◌, arith, slice_range, length-append, append_assoc, drop-drop}
use Rattle.std.specs.Prelude.{slice_get, ◌&&◌, not, nat_le, nat_lt}
use Rattle.std.specs.List.{flat_map, list_any, enumerate_from, sum_by, AllByRecursion}
use Rattle.std.proofs.lemmas.Bool.{not-true, cases_order, or_parts, and_cases, and_left, and_right, lt-leb, le-ltb, leb-false, ltb-false}
use Rattle.std.proofs.lemmas.List.{append-nil, take_at, drop_at}
use Rattle.std.proofs.lemmas.List.Concat.{flat_map-cons}
use Rattle.std.proofs.lemmas.List.Folds.{list_any-append}
use Rattle.std.proofs.lemmas.List.Sums.{sum_by-cons}
use Rattle.avr_reloc.specs.declared.fixup.Fixup.{Fixup}
use Rattle.avr_reloc.specs.declared.kind.RelocType.TheVariants.{Eight}
use Rattle.avr_reloc.specs.Kind.{shape_of}
use Rattle.avr_reloc.specs.Field.{AreBytes, HasZeroValue, FieldHolds}
use Rattle.avr_reloc.specs.Fixups.{end_of, covers, field_of, HasField, AreApart, ArePut}
use Rattle.avr_reloc.proofs.Fixups.{free, length-field, get_or-slice, AreBytes-slice}
use Rattle.avr_reloc.proofs.Cleared.{cleared}
use Rattle.component_package.specs.declared.part.Reloc.{Reloc}
use Rattle.component_package.specs.packages.Component.{Component}
use Rattle.component_package.specs.packages.Reading.{reloc_width, reloc_end}
use Rattle.component_package.specs.packages.Grammar.{IsReloc, IsComponent, part_of_reloc}
use Rattle.component_package.specs.link.Layout.{Room, room_of, code_total, init_total, code_base, load_base}
use Rattle.component_package.specs.link.Link.{rooms_of, fixups_of, plain_of}
use Rattle.kept_definitions.specs.Runs.{is_in_part, has_field_at, cleared as cleared_part}
use Rattle.component_package.proofs.InGrammar.{slice_slice}
use Rattle.link_laws.proofs.Apart.{Fits, IsAt, stands, field, HasFieldsInOrder, fixups_in, fixups_from, AreAt, between_two, fixups_flat, in_order, all_at_place}
use Rattle.link_laws.proofs.Room.{part_in_sum}
use Rattle.kept_laws.proofs.Clearing.{FieldBack, part_back}

-- ---- a component's part among those of its set

-- the component at k, if there is one, has its part where the parts before it end
record HasPart (f : Component → List ℕ) (at : ℕ) (whole : List ℕ) (c : Component) : Type 0 where
  pub tail : List ℕ
  pub is : drop at whole ≡ f c ++ tail

-- parts of which each has the length that its room says
part_at : (f : Component → List ℕ) (g : Room → ℕ) → ((c : Component) → g (room_of c) ≡ length (f c)) → (set : List Component) (back : List ℕ) (k : ℕ) (c : Component)
    → slice_get set k ≡ Some c → HasPart f (sum_by g (take k (rooms_of set))) (flat_map f set ++ back) c
part_at f g fit [] back k c here = absurd cc
part_at f g fit (d ∷ ds) back zero c here =
    let same : d ≡ c = cc in
    record {
      tail = flat_map f ds ++ back;
      is = ap (λ (x : List ℕ). x ++ back) (flat_map-cons f d ds)
          ∙ append_assoc (f d) (flat_map f ds) back ∙ ap (λ (e : Component). f e ++ (flat_map f ds ++ back)) same;
    }
part_at f g fit (d ∷ ds) back (suc k) c here =
    let rest = part_at f g fit ds back k c here in
    let whole : flat_map f (d ∷ ds) ++ back ≡ f d ++ (flat_map f ds ++ back) = ap (λ (x : List ℕ). x ++ back) (flat_map-cons f d ds) ∙ append_assoc (f d) (flat_map f ds) back in
    record {
      tail = rest.tail;
      is = ap (λ (n : ℕ). drop n (flat_map f (d ∷ ds) ++ back)) (sum_by-cons g (room_of d) (take k (rooms_of ds)))
          ∙ ap (drop (g (room_of d) + sum_by g (take k (rooms_of ds)))) whole
          ∙ ap (λ (n : ℕ). drop (n + sum_by g (take k (rooms_of ds))) (f d ++ (flat_map f ds ++ back))) (fit d)
          ∙ sym (drop-drop (sum_by g (take k (rooms_of ds))) (length (f d)) (f d ++ (flat_map f ds ++ back)))
          ∙ ap (drop (sum_by g (take k (rooms_of ds)))) (drop_at (f d) (flat_map f ds ++ back) (length (f d)) refl)
          ∙ rest.is;
    }

-- all code is as long as the rooms say
code_long : (set : List Component) → length (flat_map (λ c. c.code) set) ≡ code_total (rooms_of set)
code_long [] = refl
code_long (c ∷ cs) = ap length (flat_map-cons (λ c. c.code) c cs) ∙ length-append c.code (flat_map (λ c. c.code) cs)
    ∙ ap (λ (n : ℕ). length c.code + n) (code_long cs) ∙ sym (sum_by-cons (λ r. r.code) (room_of c) (rooms_of cs))

-- and so is all data
init_long : (set : List Component) → length (flat_map (λ c. c.init) set) ≡ init_total (rooms_of set)
init_long [] = refl
init_long (c ∷ cs) = ap length (flat_map-cons (λ c. c.init) c cs) ∙ length-append c.init (flat_map (λ c. c.init) cs)
    ∙ ap (λ (n : ℕ). length c.init + n) (init_long cs) ∙ sym (sum_by-cons (λ r. r.init) (room_of c) (rooms_of cs))

-- the base of a part
abbrev pub base_of : List Component → ℕ → Bool → ℕ
base_of set k init = cond init (load_base (rooms_of set) k) (code_base (rooms_of set) k)

-- a part of a component
abbrev pub part_of : Component → Bool → List ℕ
part_of c init = cond init c.init c.code

-- the first n bytes of a list that begins with n bytes
taken : (at n : ℕ) (whole part tail : List ℕ) → drop at whole ≡ part ++ tail → length part ≡ n → slice_range whole at (at + n) ≡ part
taken at n whole part tail is size =
    let count : at + n - at ≡ n = omega arith in
    ap (λ (m : ℕ). take m (drop at whole)) count ∙ ap (take n) is ∙ take_at part tail n size

-- where nothing is patched yet, a part stands at its base
pub plain_part : (set : List Component) (k : ℕ) (c : Component) (init : Bool) → IsAt set k c
    → slice_range (plain_of set) (base_of set k init) (base_of set k init + length (part_of c init)) ≡ part_of c init
plain_part set k c false h =
    let p = part_at (λ c. c.code) (λ r. r.code) (λ c. refl) set (flat_map (λ c. c.init) set) k c h.here in
    taken (code_base (rooms_of set) k) (length c.code) (plain_of set) c.code p.tail p.is refl
plain_part set k c true h =
    let codes = flat_map (λ (c : Component). c.code) set in
    let inits = flat_map (λ (c : Component). c.init) set in
    let p = part_at (λ c. c.init) (λ r. r.init) (λ c. refl) set [] k c h.here in
    let n = init_total (take k (rooms_of set)) in
    let behind : drop (load_base (rooms_of set) k) (plain_of set) ≡ drop n inits =
    ap (λ (m : ℕ). drop (m + n) (codes ++ inits)) (sym (code_long set)) ∙ sym (drop-drop n (length codes) (codes ++ inits)) ∙ ap (drop n) (drop_at codes inits (length codes) refl) in
    let nil : inits ++ [] ≡ inits = append-nil inits in
    taken (load_base (rooms_of set) k) (length c.init) (plain_of set) c.init p.tail (behind ∙ ap (drop n) (sym nil) ∙ p.is) refl

-- how long the image is
pub plain_long : (set : List Component) → length (plain_of set) ≡ code_total (rooms_of set) + init_total (rooms_of set)
plain_long set = omega (arith, length-append (flat_map (λ c. c.code) set) (flat_map (λ c. c.init) set), code_long set, init_long set)

-- a part ends within it
pub part_within : (set : List Component) (k : ℕ) (c : Component) (init : Bool) → IsAt set k c → base_of set k init + length (part_of c init) ≤ length (plain_of set)
part_within set k c false h = omega (arith, plain_long set, (stands set k c h).code_low)
part_within set k c true h = omega (arith, plain_long set, part_in_sum (λ r. r.init) set k c h)

-- ---- bytes in no field

-- byte o of a part, as a field of its own
abbrev byte_at : Bool → ℕ → Reloc
byte_at init o = record { offset = o; in_init = init; weak = false; kind = Eight; target = 0; addend = pos 0 }

-- it lies in its part
byte_fits : (c : Component) (init : Bool) (o : ℕ) → o < length (part_of c init) → Fits c (byte_at init o)
byte_fits c false o lt = omega arith
byte_fits c true o lt = omega arith

-- apart is apart the other way round
flipped : (x y : Fixup) → AreApart x y → AreApart y x
flipped x y (inl h) = inr h
flipped x y (inr h) = inl h

-- a byte of component k and the fields of another component
other_fields : (set : List Component) (k j : ℕ) (c d : Component) → IsAt set k c → IsAt set j d → (k < j) ⊎ (j < k) → (init : Bool) (o : ℕ) → Fits c (byte_at init o)
    → (m : ℕ) (rs : List Reloc) → AllByRecursion (Fits d) rs → AllByRecursion (AreApart (field set k 0 (byte_at init o))) (map (λ r. field set j r.0 r.1) (enumerate_from m rs))
other_fields set k j c d h g apart init o fit m [] all = tt
other_fields set k j c d h g apart init o fit m (r ∷ rs) all =
    let here : AreApart (field set k 0 (byte_at init o)) (field set j m r) =
    elim apart [
      | inl lt ↦ between_two set k j c d h g lt 0 m (byte_at init o) r fit all.0
      | inr gt ↦ flipped (field set j m r) (field set k 0 (byte_at init o)) (between_two set j k d c g h gt m 0 r (byte_at init o) all.0 fit)
    ] in
    (here, other_fields set k j c d h g apart init o fit (m + 1) rs all.1)

-- a byte and a field of one component, by numbers
apart_by_numbers : (init p : Bool) (b l n m o x v : ℕ) → b + n ≤ l → o < cond init m n → x + v ≤ cond p m n → (cond init p (not p) ≡ false) ⊎ ((o < x) ⊎ (x + v ≤ o))
    → (cond init l b + o < cond p l b + x) ⊎ (cond p l b + x + v ≤ cond init l b + o)
apart_by_numbers false false b l n m o x v low lt fit (inl e) = absurd cc
apart_by_numbers false false b l n m o x v low lt fit (inr (inl h)) = inl (omega arith)
apart_by_numbers false false b l n m o x v low lt fit (inr (inr h)) = inr (omega arith)
apart_by_numbers false true b l n m o x v low lt fit h = inl (omega arith)
apart_by_numbers true false b l n m o x v low lt fit h = inr (omega arith)
apart_by_numbers true true b l n m o x v low lt fit (inl e) = absurd cc
apart_by_numbers true true b l n m o x v low lt fit (inr (inl h)) = inl (omega arith)
apart_by_numbers true true b l n m o x v low lt fit (inr (inr h)) = inr (omega arith)

-- a byte that lies in no field of its part isn't covered by those of its component
own_one : (set : List Component) (k : ℕ) (c : Component) → IsAt set k c → (init : Bool) (o : ℕ) → o < length (part_of c init) → (m : ℕ) (r : Reloc) → Fits c r
    → has_field_at init o r ≡ false → covers (base_of set k init + o) (field set k m r) ≡ false
own_one set k c h init o lt m r fit none =
    let s = stands set k c h in
    let small : o < cond init (length c.init) (length c.code) = part_length c init o lt in
    let where_it_is : (is_in_part init r ≡ false) ⊎ ((o < r.offset) ⊎ (reloc_end r ≤ o)) =
    elim (and_cases (is_in_part init r) (nat_le r.offset o && nat_lt o (reloc_end r)) none) [
      | inl e ↦ inl e
      | inr e ↦ inr (elim (and_cases (nat_le r.offset o) (nat_lt o (reloc_end r)) e) [ inl h ↦ inl (leb-false r.offset o h) | inr h ↦ inr (ltb-false o (reloc_end r) h) ])
    ] in
    covers_outside (field set k m r) (base_of set k init + o)
    (apart_by_numbers init r.in_init (code_base (rooms_of set) k) (load_base (rooms_of set) k)
    (length c.code) (length c.init) o r.offset (reloc_width r) (omega (arith, s.code_low)) small fit where_it_is)
  where
    part_length : (c : Component) (init : Bool) (o : ℕ) → o < length (part_of c init) → o < cond init (length c.init) (length c.code)
    part_length c false o lt = lt
    part_length c true o lt = lt

    covers_outside : (x : Fixup) (at : ℕ) → (at < x.place) ⊎ (end_of x ≤ at) → covers at x ≡ false
    covers_outside x at (inl h) = and_left (nat_le x.place at) (nat_lt at (end_of x)) (lt-leb x.place at h)
    covers_outside x at (inr h) = and_right (nat_le x.place at) (nat_lt at (end_of x)) (le-ltb at (end_of x) h)

-- nor by all of them
own_fields : (set : List Component) (k : ℕ) (c : Component) → IsAt set k c → (init : Bool) (o : ℕ) → o < length (part_of c init) → (m : ℕ) (rs : List Reloc)
    → AllByRecursion (Fits c) rs → list_any (has_field_at init o) rs ≡ false → list_any (covers (base_of set k init + o)) (map (λ r. field set k r.0 r.1) (enumerate_from m rs)) ≡ false
own_fields set k c h init o lt m [] all none = refl
own_fields set k c h init o lt m (r ∷ rs) all none =
    let both = or_parts (has_field_at init o r) (list_any (has_field_at init o) rs) none in
    rw (own_one set k c h init o lt m r all.0 both.0) (own_fields set k c h init o lt (m + 1) rs all.1 both.1)

-- nor by those of the components from n on
no_fields : (set : List Component) (k : ℕ) (c : Component) → IsAt set k c → (init : Bool) (o : ℕ) → o < length (part_of c init) → list_any (has_field_at init o) c.relocs ≡ false
    → (n : ℕ) (ds : List Component) → AreAt set n ds → AllByRecursion HasFieldsInOrder ds → list_any (covers (base_of set k init + o)) (fixups_from set n ds) ≡ false
no_fields set k c h init o lt none n [] are sound = refl
no_fields set k c h init o lt none n (d ∷ ds) are sound =
    let rest = no_fields set k c h init o lt none (n + 1) ds are.1 sound.1 in
    let joined = ap (list_any (covers (base_of set k init + o))) (flat_map-cons (λ p. fixups_in set p.0 p.1) (n, d) (enumerate_from (n + 1) ds))
    ∙ list_any-append (covers (base_of set k init + o)) (fixups_in set n d) (fixups_from set (n + 1) ds) in
    let here : list_any (covers (base_of set k init + o)) (fixups_in set n d) ≡ false =
    elim (cases_order k n) [
      | inl same ↦
          let there : slice_get set k ≡ Some d = subst (λ (i : ℕ). slice_get set i ≡ Some d) (sym same) are.0.here in
          let one : d ≡ c = let e = h.here in cc in
          let fits : AllByRecursion (Fits c) c.relocs = subst (λ (x : Component). AllByRecursion (Fits x) x.relocs) one sound.0.fits in
          let mine = own_fields set k c h init o lt 0 c.relocs fits none in
          subst (λ (x : Component). list_any (covers (base_of set k init + o)) (fixups_in set n x) ≡ false) (sym one)
          (subst (λ (i : ℕ). list_any (covers (base_of set k init + o)) (fixups_in set i c) ≡ false) same mine)
      | inr apart ↦ free (field set k 0 (byte_at init o)) (fixups_in set n d) (base_of set k init + o)
          (other_fields set k n c d h are.0 apart init o (byte_fits c init o lt) 0 d.relocs sound.0.fits) (omega arith) (omega arith)
    ] in
    joined ∙ rw here rest

-- so it is as before patching
pub plain_there : (set : List Component) → AllByRecursion IsComponent set → (b : List ℕ) → ArePut (fixups_of set) (plain_of set) b
    → (k : ℕ) (c : Component) → IsAt set k c → (init : Bool) (o : ℕ) → o < length (part_of c init) → list_any (has_field_at init o) c.relocs ≡ false
    → get_or b (base_of set k init + o) 0 ≡ get_or (part_of c init) o 0
plain_there set components b put k c h init o lt none =
    let all = no_fields set k c h init o lt none 0 set (all_at_place set) (in_order set components) in
    let flat = fixups_flat set 0 set in
    let outside : list_any (covers (base_of set k init + o)) (fixups_of set) ≡ false = ap (list_any (covers (base_of set k init + o))) flat ∙ all in
    let len = length (part_of c init) in
    put.plain (base_of set k init + o) outside
    ∙ sym (get_or-slice (plain_of set) (base_of set k init) (base_of set k init + len) o (omega (arith, lt)))
    ∙ ap (λ (l : List ℕ). get_or l o 0) (plain_part set k c init h)

-- ---- fields

-- what holds of two lists together holds of each
all_front : {X : Type 0} (P : X → Type 0) (xs ys : List X) → AllByRecursion P (xs ++ ys) → AllByRecursion P xs
all_front P [] ys all = tt
all_front P (x ∷ xs) ys all = (all.0, all_front P xs ys all.1)

all_back : {X : Type 0} (P : X → Type 0) (xs ys : List X) → AllByRecursion P (xs ++ ys) → AllByRecursion P ys
all_back P [] ys all = all
all_back P (x ∷ xs) ys all = all_back P xs ys all.1

-- what holds of all fields from n on holds of those of the component at n + j
of_component : (P : Fixup → Type 0) (set : List Component) (n : ℕ) (ds : List Component) → AllByRecursion P (fixups_from set n ds) → (j : ℕ) (c : Component)
    → slice_get ds j ≡ Some c → AllByRecursion P (fixups_in set (n + j) c)
of_component P set n [] all j c here = absurd cc
of_component P set n (d ∷ ds) all zero c here =
    let same : d ≡ c = cc in
    let split = subst (AllByRecursion P) (flat_map-cons (λ p. fixups_in set p.0 p.1) (n, d) (enumerate_from (n + 1) ds)) all in
    let first = all_front P (fixups_in set n d) (fixups_from set (n + 1) ds) split in
    let at : n ≡ n + 0 = omega arith in
    subst (λ (i : ℕ). AllByRecursion P (fixups_in set i c)) at (subst (λ (x : Component). AllByRecursion P (fixups_in set n x)) same first)
of_component P set n (d ∷ ds) all (suc j) c here =
    let split = subst (AllByRecursion P) (flat_map-cons (λ p. fixups_in set p.0 p.1) (n, d) (enumerate_from (n + 1) ds)) all in
    let later = of_component P set (n + 1) ds (all_back P (fixups_in set n d) (fixups_from set (n + 1) ds) split) j c here in
    let at : n + 1 + j ≡ n + suc j = omega arith in
    subst (λ (i : ℕ). AllByRecursion P (fixups_in set i c)) at later

-- the relocation stands in the part that it is tested for
in_part : (init : Bool) (r : Reloc) → is_in_part init r ≡ true → r.in_init ≡ init
in_part false r e = not-true r.in_init e
in_part true r e = e

-- a field of the image gives the package's bytes back
field_back : (set : List Component) (k : ℕ) (c : Component) → IsAt set k c → IsComponent c → (b : List ℕ) → length b ≡ length (plain_of set) → (init : Bool) (i : ℕ) (r : Reloc)
    → IsReloc c r → HasField (plain_of set) b (field set k i r)
    → FieldBack init (slice_range b (base_of set k init) (base_of set k init + length (part_of c init))) (part_of c init) r
field_back set k c h w b size init i r is holds here =
    let at : r.in_init ≡ init = in_part init r here in
    let base = base_of set k init in
    let part = part_of c init in
    let len = length part in
    let n = reloc_width r in
    let x = field set k i r in
    let low : x.place ≡ base + r.offset = ap (λ (p : Bool). cond p (load_base (rooms_of set) k) (code_base (rooms_of set) k) + r.offset) at in
    let own : part_of_reloc c r ≡ part = ap (λ (p : Bool). cond p c.init c.code) at in
    let inside : r.offset + n ≤ len = subst (λ (l : List ℕ). reloc_end r ≤ length l) own is.inside in
    let room = part_within set k c init h in
    let q : field_of (plain_of set) x ≡ slice_range part r.offset (reloc_end r) =
    ap (λ (m : ℕ). slice_range (plain_of set) m (m + n)) low
    ∙ sym (slice_slice (plain_of set) base len r.offset n room inside)
    ∙ ap (λ (l : List ℕ). slice_range l r.offset (r.offset + n)) (plain_part set k c init h) in
    let f : field_of b x ≡ slice_range (slice_range b base (base + len)) r.offset (reloc_end r) =
    ap (λ (m : ℕ). slice_range b m (m + n)) low ∙ sym (slice_slice b base len r.offset n (omega (arith, room, size)) inside) in
    let bytes : AreBytes (slice_range part r.offset (reloc_end r)) = AreBytes-slice part r.offset (reloc_end r) (part_bytes c init w) in
    let clear : HasZeroValue (shape_of r.kind) (slice_range part r.offset (reloc_end r)) =
    subst (λ (l : List ℕ). HasZeroValue (shape_of r.kind) (slice_range l r.offset (reloc_end r))) own is.clear in
    cleared r.kind x.s_plus_a (pos x.place) (slice_range part r.offset (reloc_end r)) (slice_range (slice_range b base (base + len)) r.offset (reloc_end r))
    bytes (length-field part r.offset n inside) clear
    (subst (λ (l : List ℕ). FieldHolds r.kind x.s_plus_a (pos x.place) (slice_range part r.offset (reloc_end r)) l) f
    (subst (λ (l : List ℕ). FieldHolds r.kind x.s_plus_a (pos x.place) l (field_of b x)) q holds))
  where
    part_bytes : (c : Component) (init : Bool) → IsComponent c → AreBytes (part_of c init)
    part_bytes c false w = w.code
    part_bytes c true w = w.init

-- so do all of its component
fields_back : (set : List Component) (k : ℕ) (c : Component) → IsAt set k c → IsComponent c → (b : List ℕ) → length b ≡ length (plain_of set) → (init : Bool) (m : ℕ) (rs : List Reloc)
    → AllByRecursion (IsReloc c) rs → AllByRecursion (HasField (plain_of set) b) (map (λ r. field set k r.0 r.1) (enumerate_from m rs))
    → AllByRecursion (FieldBack init (slice_range b (base_of set k init) (base_of set k init + length (part_of c init))) (part_of c init)) rs
fields_back set k c h w b size init m [] is all = tt
fields_back set k c h w b size init m (r ∷ rs) is all = (field_back set k c h w b size init m r is.0 all.0, fields_back set k c h w b size init (m + 1) rs is.1 all.1)

-- ---- a part is taken back

-- the bytes of a component's part in the image, cleared, are its package's
pub part_taken : (set : List Component) → AllByRecursion IsComponent set → (b : List ℕ) → AreBytes b → ArePut (fixups_of set) (plain_of set) b
    → (k : ℕ) (c : Component) → IsAt set k c → IsComponent c → (init : Bool)
    → cleared_part init c.relocs (slice_range b (base_of set k init) (base_of set k init + length (part_of c init))) ≡ part_of c init
part_taken set components b bytes put k c h w init =
    let base = base_of set k init in
    let len = length (part_of c init) in
    let all = of_component (HasField (plain_of set) b) set 0 set (subst (AllByRecursion (HasField (plain_of set) b)) (fixups_flat set 0 set) put.fields) k c h.here in
    let at : 0 + k ≡ k = omega arith in
    let mine = subst (λ (i : ℕ). AllByRecursion (HasField (plain_of set) b) (fixups_in set i c)) at all in
    let room : base + len ≤ length b = omega (arith, part_within set k c init h, put.size) in
    part_back init (slice_range b base (base + len)) (part_of c init) c.relocs (length-field b base len room) (AreBytes-slice b base (base + len) bytes)
    (fields_back set k c h w b put.size init 0 c.relocs w.relocs mine)
    (λ o lt none. get_or-slice b base (base + len) o (omega (arith, lt)) ∙ plain_there set components b put k c h init o lt none)
