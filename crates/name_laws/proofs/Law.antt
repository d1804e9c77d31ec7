-- The image of objects by names is the image of their packages.
use Rattle.std.proofs.Common.{◌≡◌, ℕ, ◌≤◌, Bool, true, false, cond, Option, Some, None, List, [], ◌∷◌, ◌++◌, length, map, refl, sym, ap, subst, ◌∙◌, arith, ltb, pos, ◌+ℤ◌, unwrap_or}
use Rattle.std.specs.Prelude.{is_some}
use Rattle.std.specs.Option.{option_or, option_map}
use Rattle.std.specs.List.{flat_map, enumerate_from, AllByRecursion}
use Rattle.std.proofs.lemmas.Bool.{ltb-false}
use Rattle.std.proofs.lemmas.Bool.Decides.{nat_tests}
use Rattle.std.proofs.lemmas.List.{length-map}
use Rattle.avr_reloc.specs.declared.fixup.Fixup.{Fixup}
use Rattle.avr_reloc.specs.Kind.{shape_of, fault_of}
use Rattle.avr_reloc.specs.Field.{keep_of, masked}
use Rattle.avr_reloc.specs.Fixups.{covers, field_of, HasField, ArePut}
use Rattle.avr_elf.specs.Object.{Object}
use Rattle.component_package.specs.declared.part.Site.{Site}
use Rattle.component_package.specs.packages.Component.{Component}
use Rattle.component_package.specs.link.Layout.{Room}
use Rattle.component_package.specs.link.Link.{Cause, Symbols, Relocations, above, first_cause, range_cause, site_cause, room_cause, symbols_cause, relocations_cause, duplicate_cause, sites_cause, link_cause, rooms_of, exports_of, symbols_of, distinct, sites_of, target_of, place_of_site, fixup_of, fixups_of, plain_of, IsImage}
use Rattle.object_packer.proofs.First.{none_or}
use Rattle.name_laws.specs.NameImage.{rooms_of_objects, plain_of_objects, Entry, entries, named_fixup, IsNameImage}
use Rattle.name_laws.specs.Laws.{ArePackable, IsNumbering, ArePackages}
use Rattle.name_laws.proofs.Lists.{map_twice, all_map, map_all, all_so, all_with}
use Rattle.name_laws.proofs.Defined.{IsIn, all_in_set, exports_packed}
use Rattle.name_laws.proofs.Packed.{packed_part, rooms_are, exports_are, sites_are, plain_is}
use Rattle.name_laws.proofs.Told.{tell_entry, told_kept, entries_told, told_ordered, tell_site, sites_told, kept_from_ordered, ordered_from_kept, as_many}
use Rattle.name_laws.proofs.Put.{none_from_any, put_over, packed_long, same_outside, same_inside}
use Rattle.name_laws.proofs.Counts.{count_is, one_strong, no_duplicate}

-- ---- causes

-- no cause of any kind
record NoCause (set : List Component) : Type 0 where
  pub room : room_cause (rooms_of set) ≡ None
  pub symbols : symbols_cause set ≡ None
  pub relocations : relocations_cause set ≡ None
  pub duplicate : duplicate_cause set ≡ None
  pub sites : sites_cause set ≡ None

no_cause : (set : List Component) → link_cause set ≡ None → NoCause set
unfolding link_cause
no_cause set e =
    let a = none_or (room_cause (rooms_of set)) _ e in
    let b = none_or (symbols_cause set) _ a.1 in
    let c = none_or (relocations_cause set) _ b.1 in
    let d = none_or (duplicate_cause set) (sites_cause set) c.1 in
    record { room = a.0; symbols = b.0; relocations = c.0; duplicate = d.0; sites = d.1 }

or_none : {X : Type 0} (a b : Option X) → a ≡ None → b ≡ None → option_or a b ≡ None
or_none None b p q = q
or_none (Some x) b p q = p

from_no_cause : (set : List Component) → NoCause set → link_cause set ≡ None
unfolding link_cause
from_no_cause set free = or_none _ _ free.room (or_none _ _ free.symbols (or_none _ _ free.relocations (or_none _ _ free.duplicate free.sites)))

not_above : (limit : ℕ) (f : ℕ → Cause) (n : ℕ) → above limit f n ≡ None → n ≤ limit
not_above limit f n e = from (ltb limit n) refl e
  where
    from : (b : Bool) → ltb limit n ≡ b → cond b (Some (f n)) None ≡ None → n ≤ limit
    from true p e = absurd cc
    from false p e = ltb-false limit n p

none_above : (limit : ℕ) (f : ℕ → Cause) (n : ℕ) → n ≤ limit → above limit f n ≡ None
none_above limit f n le = let no : ltb limit n ≡ false = grind (arith, nat_tests) in ap (λ b. cond b (Some (f n)) None) no

no_first : (f : Site → Option Cause) (xs : List Site) → first_cause f xs ≡ None → AllByRecursion (λ x. f x ≡ None) xs
no_first f [] e = tt
no_first f (x ∷ xs) e = let both = none_or (f x) (first_cause f xs) e in (both.0, no_first f xs both.1)

from_no_first : (f : Site → Option Cause) (xs : List Site) → AllByRecursion (λ x. f x ≡ None) xs → first_cause f xs ≡ None
from_no_first f [] all = refl
from_no_first f (x ∷ xs) all = or_none (f x) (first_cause f xs) all.0 (from_no_first f xs all.1)

-- a relocation without a cause has a target
has_target : (set : List Component) (x : Site) (o : Option ℕ) → range_cause set x o ≡ None → is_some o ≡ true
has_target set x None e = absurd cc
has_target set x (Some s) e = refl

-- and one with a target that its field can hold has no cause
no_range : (set : List Component) (x : Site) (o : Option ℕ) → is_some o ≡ true → fault_of x.reloc.kind (pos (unwrap_or o 0) +ℤ x.reloc.addend) (pos (place_of_site set x)) ≡ None → range_cause set x o ≡ None
no_range set x None some e = absurd cc
no_range set x (Some s) some e = ap (option_map _) e

-- ---- the law

module _ (os : List Object) (f : List ℕ → ℕ) (set : List Component) (b : List ℕ) (packable : ArePackable os) (numbers : IsNumbering os f) (are : ArePackages f os set) where
  rooms : rooms_of set ≡ rooms_of_objects os
  rooms = rooms_are f os set packable are

  exports : exports_of set ≡ exports_packed f (enumerate_from 0 os)
  exports = exports_are f os set are

  all : AllByRecursion (IsIn os) os
  all = all_in_set os packable

  sites : map (tell_site set) (sites_of set) ≡ told_ordered os
  sites = sites_told os f packable numbers set rooms exports (sites_are f os set are)

  fixups_are : fixups_of set ≡ map (λ t. t.0) (told_ordered os)
  fixups_are = sym (map_twice (λ (t : Fixup × Bool). t.0) (tell_site set) (sites_of set)) ∙ ap (map (λ (t : Fixup × Bool). t.0)) sites

  named_are : map (named_fixup (rooms_of_objects os)) (entries os) ≡ map (λ t. t.0) (told_kept os)
  named_are = sym (map_twice (λ (t : Fixup × Bool). t.0) (tell_entry os) (entries os)) ∙ ap (map (λ (t : Fixup × Bool). t.0)) (entries_told os)

  forth : (P : Fixup → Type 0) → AllByRecursion P (map (λ t. t.0) (told_ordered os)) → AllByRecursion P (map (λ t. t.0) (told_kept os))
  forth P every = all_map P (λ (t : Fixup × Bool). t.0) (told_kept os) (kept_from_ordered (λ t. P t.0) os (map_all P (λ (t : Fixup × Bool). t.0) (told_ordered os) every))

  back : (P : Fixup → Type 0) → AllByRecursion P (map (λ t. t.0) (told_kept os)) → AllByRecursion P (map (λ t. t.0) (told_ordered os))
  back P every = all_map P (λ (t : Fixup × Bool). t.0) (told_ordered os) (ordered_from_kept (λ t. P t.0) os (map_all P (λ (t : Fixup × Bool). t.0) (told_kept os) every))

  abbrev packed_bytes : List ℕ
  packed_bytes = flat_map (packed_part false) os ++ flat_map (packed_part true) os

  masks : AllByRecursion (λ (x : Fixup). masked (field_of packed_bytes x) (keep_of (shape_of x.kind)) ≡ masked (field_of (plain_of_objects os) x) (keep_of (shape_of x.kind))) (map (λ t. t.0) (told_ordered os))
  masks = all_map (λ (x : Fixup). masked (field_of packed_bytes x) (keep_of (shape_of x.kind)) ≡ masked (field_of (plain_of_objects os) x) (keep_of (shape_of x.kind))) (λ (t : Fixup × Bool). t.0) (told_ordered os) (same_inside os all)

  -- patched over packages is patched over objects
  put_names : ArePut (fixups_of set) (plain_of set) b → ArePut (map (named_fixup (rooms_of_objects os)) (entries os)) (plain_of_objects os) b
  put_names put =
      subst (λ (xs : List Fixup). ArePut xs (plain_of_objects os) b) (sym named_are)
      (put_over (map (λ t. t.0) (told_ordered os)) (map (λ t. t.0) (told_kept os)) packed_bytes (plain_of_objects os) b (packed_long os all) forth back
      (λ at none. same_outside os all at (map_all (λ (x : Fixup). covers at x ≡ false) (λ (t : Fixup × Bool). t.0) (told_ordered os) (none_from_any (covers at) (map (λ t. t.0) (told_ordered os)) none)))
      masks (subst (λ (p : List ℕ). ArePut (map (λ t. t.0) (told_ordered os)) p b) (plain_is f os set are) (subst (λ (xs : List Fixup). ArePut xs (plain_of set) b) fixups_are put)))

  -- and back
  put_numbers : ArePut (map (named_fixup (rooms_of_objects os)) (entries os)) (plain_of_objects os) b → ArePut (fixups_of set) (plain_of set) b
  put_numbers put =
      subst (λ (p : List ℕ). ArePut (fixups_of set) p b) (sym (plain_is f os set are))
      (subst (λ (xs : List Fixup). ArePut xs packed_bytes b) (sym fixups_are)
      (put_over (map (λ t. t.0) (told_kept os)) (map (λ t. t.0) (told_ordered os)) (plain_of_objects os) packed_bytes b (sym (packed_long os all)) back forth
      (λ at none. sym (same_outside os all at (map_all (λ (x : Fixup). covers at x ≡ false) (λ (t : Fixup × Bool). t.0) (told_ordered os) (back (λ x. covers at x ≡ false) (none_from_any (covers at) (map (λ t. t.0) (told_kept os)) none)))))
      (all_so (λ (x : Fixup). masked (field_of packed_bytes x) (keep_of (shape_of x.kind)) ≡ masked (field_of (plain_of_objects os) x) (keep_of (shape_of x.kind)))
      (λ (x : Fixup). masked (field_of (plain_of_objects os) x) (keep_of (shape_of x.kind)) ≡ masked (field_of packed_bytes x) (keep_of (shape_of x.kind))) (map (λ t. t.0) (told_kept os)) (λ x e. sym e)
      (forth (λ (x : Fixup). masked (field_of packed_bytes x) (keep_of (shape_of x.kind)) ≡ masked (field_of (plain_of_objects os) x) (keep_of (shape_of x.kind))) masks))
      (subst (λ (xs : List Fixup). ArePut xs (plain_of_objects os) b) named_are put)))

  -- as many entries as relocations
  same_number : length (entries os) ≡ length (sites_of set)
  same_number =
      sym (length-map (entries os) (tell_entry os)) ∙ ap (λ (ts : List (Fixup × Bool)). length ts) (entries_told os) ∙ sym (as_many os)
      ∙ ap (λ (ts : List (Fixup × Bool)). length ts) (sym sites) ∙ length-map (sites_of set) (tell_site set)

  -- all relocations have a target exactly where all entries have a value
  defined_from : AllByRecursion (λ x. is_some (target_of set x) ≡ true) (sites_of set) → AllByRecursion (λ (e : Entry). is_some e.value ≡ true) (entries os)
  defined_from every =
      map_all (λ (t : Fixup × Bool). t.1 ≡ true) (tell_entry os) (entries os)
      (subst (λ (ts : List (Fixup × Bool)). AllByRecursion (λ (t : Fixup × Bool). t.1 ≡ true) ts) (sym (entries_told os))
      (kept_from_ordered (λ t. t.1 ≡ true) os
      (subst (λ (ts : List (Fixup × Bool)). AllByRecursion (λ (t : Fixup × Bool). t.1 ≡ true) ts) sites (all_map (λ (t : Fixup × Bool). t.1 ≡ true) (tell_site set) (sites_of set) every))))

  targets_from : AllByRecursion (λ (e : Entry). is_some e.value ≡ true) (entries os) → AllByRecursion (λ x. is_some (target_of set x) ≡ true) (sites_of set)
  targets_from every =
      map_all (λ (t : Fixup × Bool). t.1 ≡ true) (tell_site set) (sites_of set)
      (subst (λ (ts : List (Fixup × Bool)). AllByRecursion (λ (t : Fixup × Bool). t.1 ≡ true) ts) (sym sites)
      (ordered_from_kept (λ t. t.1 ≡ true) os
      (subst (λ (ts : List (Fixup × Bool)). AllByRecursion (λ (t : Fixup × Bool). t.1 ≡ true) ts) (entries_told os) (all_map (λ (t : Fixup × Bool). t.1 ≡ true) (tell_entry os) (entries os) every))))

  -- the image of the packages is the objects'
  pub from_packages : IsImage set b → IsNameImage os b
  from_packages image =
      let free = no_cause set image.possible in
      record {
        linkable = record {
          room = subst (λ (r : List Room). room_cause r ≡ None) rooms free.room;
          names = subst (λ (n : ℕ). n ≤ 1024) (count_is os f packable numbers set exports) (not_above 1024 Symbols (length (distinct (symbols_of set))) free.symbols);
          relocations = subst (λ (n : ℕ). n ≤ 8192) (sym same_number) (not_above 8192 Relocations (length (sites_of set)) free.relocations);
          one = one_strong os f packable numbers set exports free.duplicate;
          defined = defined_from (all_so (λ x. site_cause set x ≡ None) (λ x. is_some (target_of set x) ≡ true) (sites_of set) (λ x e. has_target set x (target_of set x) e) (no_first (site_cause set) (sites_of set) free.sites));
        };
        bytes = image.bytes;
        put = put_names image.put;
      }

  -- and the image of the objects is the packages'
  pub from_names : IsNameImage os b → IsImage set b
  from_names image =
      let l = image.linkable in
      let put = put_numbers image.put in
      record {
        possible = from_no_cause set (record {
          room = subst (λ (r : List Room). room_cause r ≡ None) (sym rooms) l.room;
          symbols = none_above 1024 Symbols (length (distinct (symbols_of set))) (subst (λ (n : ℕ). n ≤ 1024) (sym (count_is os f packable numbers set exports)) l.names);
          relocations = none_above 8192 Relocations (length (sites_of set)) (subst (λ (n : ℕ). n ≤ 8192) same_number l.relocations);
          duplicate = no_duplicate os f packable numbers set exports l.one;
          sites = from_no_first (site_cause set) (sites_of set)
              (all_with (λ x. is_some (target_of set x) ≡ true) (λ x. HasField (plain_of set) b (fixup_of set x)) (λ x. site_cause set x ≡ None) (sites_of set)
              (λ x some field. no_range set x (target_of set x) some field.possible) (targets_from l.defined) (map_all (HasField (plain_of set) b) (fixup_of set) (sites_of set) put.fields));
        });
        bytes = image.bytes;
        put = put;
      }
