-- For a set without a cause and its own table, the pages patched from the list are the set's pages.
use Rattle.std.proofs.Common.{◌≡◌, ℕ, ◌+◌, ◌-◌, ◌≤◌, inl, inr, Bool, true, false, eqb, List, [], ◌∷◌, ◌++◌, length, get_or, take, drop, map, replicate, Option, Some, None, refl, sym, ap, subst, ◌∙◌, arith, slice_range, length-append, length-drop}
use Rattle.std.specs.Prelude.{◌||◌, not, is_some}
use Rattle.std.proofs.Math.Bool.{or-true}
use Rattle.std.specs.Option.{option_map}
use Rattle.std.specs.List.{list_any, filter, find, AllByRecursion}
use Rattle.std.proofs.lemmas.Bool.{cases_Bool, cases_lt, eqb-true}
use Rattle.std.proofs.lemmas.List.{length-take, take-append-le, drop-append-le}
use Rattle.std.proofs.Math.ListN.{get_or-append}
use Rattle.std.proofs.Math.Seq.{get_or-append_right}
use Rattle.std.proofs.lemmas.List.Folds.{list_any-append}
use Rattle.avr_reloc.specs.declared.fixup.Fixup.{Fixup}
use Rattle.avr_reloc.specs.Kind.{shape_of, width_of}
use Rattle.avr_reloc.specs.Field.{AreBytes}
use Rattle.avr_reloc.specs.Fixups.{end_of, covers, field_of, HasField, ArePut}
use Rattle.avr_reloc.proofs.Fixups.{ArePut-same}
use Rattle.link_laws.proofs.Apart.{all_append, width_positive}
use Rattle.component_package.specs.declared.part.Site.{Site}
use Rattle.component_package.specs.declared.part.Export.{Export}
use Rattle.component_package.specs.packages.Component.{Component}
use Rattle.component_package.specs.link.Link.{sites_of, plain_of, base_of_place, definition_of, address_of, fixup_with, fixup_of, IsImage}
use Rattle.component_package.specs.link.Areas.{MergedSymbol}
use Rattle.component_package.specs.link.Pages.{merged, IsTableOf, address_in, in_image_order, listed, padded, ArePatched}

-- ---- the table gives the set's addresses

-- an element that was found
record Found {X : Type 0} (p : X → Bool) (P : X → Type 0) (xs : List X) : Type 0 where
  pub it : X
  pub is : find p xs ≡ Some it
  pub passes : p it ≡ true
  pub has : P it

-- where one passes the test, one is found
found : {X : Type 0} (p : X → Bool) (P : X → Type 0) (xs : List X) → AllByRecursion P xs → list_any p xs ≡ true → Found p P xs
found p P [] all any = absurd cc
found p P (x ∷ xs) all any =
    elim (cases_Bool (p x)) [
      | inl e ↦ record { it = x; is = rw e refl; passes = e; has = all.0 }
      | inr e ↦ let rest = found p P xs all.1 (rw e at any) in record { it = rest.it; is = rw e rest.is; passes = rest.passes; has = rest.has }
    ]

-- where none passes, none is found
missing : {X : Type 0} (p : X → Bool) (xs : List X) → list_any p xs ≡ false → find p xs ≡ None
missing p [] any = refl
missing p (x ∷ xs) any =
    elim (cases_Bool (p x)) [
      | inl e ↦ absurd (let a = rw e at any in cc)
      | inr e ↦ rw e (missing p xs (rw e at any))
    ]

-- a merged symbol's address is that of its definition
merged_address : (set : List Component) (d : Option (ℕ × Export)) (r : MergedSymbol) → option_map (merged set) d ≡ Some r → option_map (λ x. base_of_place set x.0 x.1.place + x.1.value) d ≡ Some r.address
merged_address set None r e = absurd cc
merged_address set (Some x) r e = ap (option_map (λ r. r.address)) e

-- what is never some is none
not_some : {X : Type 0} (d : Option X) → (is_some d ≡ true → ⊥) → d ≡ None
not_some None h = refl
not_some (Some x) h = absurd (h refl)

-- a set's own table has its addresses
pub same_address : (set : List Component) (table : List MergedSymbol) → IsTableOf set table → (s : ℕ) → address_in table s ≡ address_of set s
same_address set table t s =
    elim (cases_Bool (list_any (λ r. eqb r.symbol s) table)) [
      | inl any ↦
          let f = found (λ r. eqb r.symbol s) (λ r. option_map (merged set) (definition_of set r.symbol) ≡ Some r) table t.each any in
          let same : f.it.symbol ≡ s = eqb-true f.it.symbol s f.passes in
          let here = subst (λ (k : ℕ). option_map (merged set) (definition_of set k) ≡ Some f.it) same f.has in
          ap (option_map (λ r. r.address)) f.is ∙ sym (merged_address set (definition_of set s) f.it here)
      | inr none ↦
          let gone : definition_of set s ≡ None = not_some (definition_of set s) (λ some. let any = t.whole s some in cc) in
          ap (option_map (λ r. r.address)) (missing (λ r. eqb r.symbol s) table none) ∙ sym (ap (option_map (λ x. base_of_place set x.0 x.1.place + x.1.value)) gone)
    ]

-- so the list made from it has the set's fields, in image order
pub same_list : (set : List Component) (table : List MergedSymbol) → IsTableOf set table → listed set table ≡ map (fixup_of set) (in_image_order (sites_of set))
same_list set table t = ap (λ (f : ℕ → Option ℕ). map (fixup_with f set) (in_image_order (sites_of set))) (λ i s. same_address set table t s i)

-- ---- another order of the same fields

-- one of a list passes where one of its two parts does
any_parts : {X : Type 0} (p q : X → Bool) (xs : List X) → (list_any p (filter (λ x. not (q x)) xs) || list_any p (filter q xs)) ≡ list_any p xs
any_parts p q [] = refl
any_parts p q (x ∷ xs) =
    let rest = any_parts p q xs in
    elim (cases_Bool (q x)) [
      | inl e ↦ elim (cases_Bool (p x)) [ inl f ↦ rw (e, f) (or-true _) | inr f ↦ rw (e, f) rest ]
      | inr e ↦ elim (cases_Bool (p x)) [ inl f ↦ rw (e, f) refl | inr f ↦ rw (e, f) rest ]
    ]

-- a test of mapped elements
pub any_map : {X Y : Type 0} (p : Y → Bool) (f : X → Y) (xs : List X) → list_any p (map f xs) ≡ list_any (λ x. p (f x)) xs
any_map p f [] = refl
any_map p f (x ∷ xs) = ap (λ (b : Bool). p (f x) || b) (any_map p f xs)

-- what holds of all holds of those kept
all_filter : {X : Type 0} (P : X → Type 0) (q : X → Bool) (xs : List X) → AllByRecursion P xs → AllByRecursion P (filter q xs)
all_filter P q [] all = tt
all_filter P q (x ∷ xs) all = elim (cases_Bool (q x)) [ inl e ↦ rw e (all.0, all_filter P q xs all.1) | inr e ↦ rw e (all_filter P q xs all.1) ]

-- what holds of mapped elements
all_map : {X Y : Type 0} (P : Y → Type 0) (f : X → Y) (xs : List X) → AllByRecursion (λ x. P (f x)) xs → AllByRecursion P (map f xs)
all_map P f [] all = tt
all_map P f (x ∷ xs) all = (all.0, all_map P f xs all.1)

-- and back
map_all : {X Y : Type 0} (P : Y → Type 0) (f : X → Y) (xs : List X) → AllByRecursion P (map f xs) → AllByRecursion (λ x. P (f x)) xs
map_all P f [] all = tt
map_all P f (x ∷ xs) all = (all.0, map_all P f xs all.1)

-- image order changes no test of one
pub any_ordered : (p : Fixup → Bool) (f : Site → Fixup) (xs : List Site) → list_any p (map f (in_image_order xs)) ≡ list_any p (map f xs)
any_ordered p f xs =
    any_map p f (in_image_order xs) ∙ list_any-append (λ x. p (f x)) (filter (λ x. not x.reloc.in_init) xs) (filter (λ x. x.reloc.in_init) xs)
    ∙ any_parts (λ x. p (f x)) (λ x. x.reloc.in_init) xs ∙ sym (any_map p f xs)

-- nor one of all
pub all_ordered : (P : Fixup → Type 0) (f : Site → Fixup) (xs : List Site) → AllByRecursion P (map f xs) → AllByRecursion P (map f (in_image_order xs))
all_ordered P f xs all =
    let each = map_all P f xs all in
    all_map P f (in_image_order xs) (all_append (λ x. P (f x)) (filter (λ x. not x.reloc.in_init) xs) (filter (λ x. x.reloc.in_init) xs)
    (all_filter (λ x. P (f x)) (λ x. not x.reloc.in_init) xs each) (all_filter (λ x. P (f x)) (λ x. x.reloc.in_init) xs each))

-- nor what fields are put
pub ArePut-ordered : (f : Site → Fixup) (xs : List Site) (old new : List ℕ) → ArePut (map f xs) old new → ArePut (map f (in_image_order xs)) old new
ArePut-ordered f xs old new put = record {
  size = put.size;
  plain = λ at none. put.plain at (sym (any_ordered (covers at) f xs) ∙ none);
  fields = all_ordered (HasField old new) f xs put.fields;
}

-- ---- bytes behind

-- a field of its whole width lies in the bytes
pub field_inside : (b : List ℕ) (x : Fixup) → length (field_of b x) ≡ width_of (shape_of x.kind) → end_of x ≤ length b
field_inside b x wide = omega (arith, wide, width_positive (shape_of x.kind), length-take (end_of x - x.place) (drop x.place b), length-drop x.place b)

-- a slice of the front
slice_front : (b back : List ℕ) (low high : ℕ) → high ≤ length b → low ≤ high → slice_range (b ++ back) low high ≡ slice_range b low high
slice_front b back low high in_b le =
    ap (take (high - low)) (drop-append-le low b back (omega arith)) ∙ take-append-le (high - low) (drop low b) back (omega (arith, length-drop low b))

-- fields are the same before more bytes
fields_padded : (old b back : List ℕ) → length b ≡ length old → (xs : List Fixup) → AllByRecursion (HasField old b) xs → AllByRecursion (HasField (old ++ back) (b ++ back)) xs
fields_padded old b back same [] all = tt
fields_padded old b back same (x ∷ xs) all =
    let inside : end_of x ≤ length b = field_inside b x all.0.width in
    let q : field_of (old ++ back) x ≡ field_of old x = slice_front old back x.place (end_of x) (omega (arith, inside, same)) (omega arith) in
    let f : field_of (b ++ back) x ≡ field_of b x = slice_front b back x.place (end_of x) inside (omega arith) in
    (rw (q, f) all.0, fields_padded old b back same xs all.1)

-- so is an image
pub ArePut-padded : (xs : List Fixup) (old b back : List ℕ) → ArePut xs old b → ArePut xs (old ++ back) (b ++ back)
ArePut-padded xs old b back put = record {
  size = omega (arith, length-append b back, length-append old back, put.size);
  plain = λ at none. elim (cases_lt at (length b)) [
    | inl lt ↦ get_or-append b back 0 at lt ∙ put.plain at none ∙ sym (get_or-append old back 0 at (omega (arith, lt, put.size)))
    | inr le ↦ get_or-append_right b back at 0 le ∙ ap (λ (n : ℕ). get_or back (at - n) 0) put.size ∙ sym (get_or-append_right old back at 0 (omega (arith, le, put.size)))
  ];
  fields = fields_padded old b back put.size xs put.fields;
}

-- ---- the law

-- a set's padded image is patched from its list
pub image_patched : (set : List Component) (table : List MergedSymbol) (b : List ℕ) → IsTableOf set table → IsImage set b → ArePatched (listed set table) (plain_of set) (padded b)
image_patched set table b t image =
    let put = ArePut-ordered (fixup_of set) (sites_of set) (plain_of set) b image.put in
    let list = subst (λ (xs : List Fixup). ArePut xs (plain_of set) b) (sym (same_list set table t)) put in
    let back : replicate (122880 - length b) 255 ≡ replicate (122880 - length (plain_of set)) 255 = ap (λ (n : ℕ). replicate (122880 - n) 255) image.put.size in
    subst (λ (r : List ℕ). ArePut (listed set table) (plain_of set ++ replicate (122880 - length (plain_of set)) 255) (b ++ r)) (sym back) (ArePut-padded (listed set table) (plain_of set) b (replicate (122880 - length (plain_of set)) 255) list)

-- no other bytes are patched from its list
pub patched_pages : (set : List Component) (table : List MergedSymbol) (b whole : List ℕ) → IsTableOf set table → IsImage set b → AreBytes (padded b) → AreBytes whole → ArePatched (listed set table) (plain_of set) whole → whole ≡ padded b
patched_pages set table b whole t image p q patched = ArePut-same (listed set table) (padded (plain_of set)) whole (padded b) q p patched (image_patched set table b t image)
